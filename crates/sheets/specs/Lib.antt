pub mod Parts
pub mod Picks
pub mod Refusals
