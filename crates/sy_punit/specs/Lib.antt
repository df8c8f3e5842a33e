pub mod Qualifying
pub mod Reader
