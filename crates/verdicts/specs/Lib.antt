pub mod Judging
pub mod Showing
pub mod Tallying
pub mod Wording
