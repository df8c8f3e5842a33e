pub mod Each
pub mod Elements
pub mod Versions
pub mod Order
