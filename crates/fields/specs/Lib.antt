pub mod Split
pub mod Numbers
pub mod Lines
