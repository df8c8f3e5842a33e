pub mod Commands
pub mod Parts
pub mod Slots
pub mod Places
pub mod Current
pub mod Calls
pub mod Written
