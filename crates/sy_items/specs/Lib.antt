pub mod Files
pub mod Looks
