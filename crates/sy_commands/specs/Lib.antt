pub mod Closures
pub mod Listing
