pub mod Begins
pub mod Examples
pub mod Fronts
pub mod Maps
pub mod Theorems
