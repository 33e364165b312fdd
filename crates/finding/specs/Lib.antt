pub mod Shapes
pub mod Alikes
pub mod Placing
