pub mod Alone
pub mod Commands
pub mod Hosts
pub mod Runs
mod Built
