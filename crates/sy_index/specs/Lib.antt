pub mod Cover
pub mod Lists
pub mod Listed
pub mod Slots
