pub mod Locations
pub mod Parts
