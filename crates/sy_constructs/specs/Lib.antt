pub mod Uses
pub mod Whole
