pub mod Texts
pub mod Front
pub mod Rows
pub mod Tokens
