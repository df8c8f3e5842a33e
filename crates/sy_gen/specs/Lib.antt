-- The source that mode selftest runs.
pub mod Draws
pub mod Groups
pub mod Text
