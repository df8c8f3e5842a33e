pub mod Fitting
pub mod Alone
