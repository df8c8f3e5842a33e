-- Lemmas of this crate.
pub mod Searched
pub mod Counted
pub mod Bytes
pub mod Steady
