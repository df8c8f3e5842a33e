pub mod Needs
pub mod Logs
pub mod Devices
