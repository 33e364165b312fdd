pub mod Tallies
pub mod Rows
pub mod Judgings
