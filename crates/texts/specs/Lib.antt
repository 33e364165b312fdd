pub mod Storing
pub mod Graphs
pub mod RefusalLines
