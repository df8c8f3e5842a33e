pub mod Sequential
pub mod Ledger
pub mod Effects
pub mod Reading
