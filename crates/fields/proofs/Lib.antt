pub mod Decimals
pub mod Overlaid
pub mod Sizes
pub mod Splits
