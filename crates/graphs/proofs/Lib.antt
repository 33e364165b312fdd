pub mod Alike
pub mod Every
mod Examples
pub mod Isomorphisms
pub mod Members
pub mod Nested
pub mod Occurrences
pub mod Parts
pub mod Sights
pub mod Tables
pub mod Words
