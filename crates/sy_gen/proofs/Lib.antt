-- Lemmas of this crate.
pub mod Drawn
pub mod Lines
