pub mod Calls
pub mod Library
