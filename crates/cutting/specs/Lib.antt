pub mod Chosen
pub mod Cuts
pub mod Largest
pub mod Pickable
pub mod Pushed
pub mod Storing
