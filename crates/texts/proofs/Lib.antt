pub mod Room
pub mod Filling
pub mod Places
pub mod Exactly
