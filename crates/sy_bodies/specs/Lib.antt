pub mod Inside
pub mod Places
pub mod Starts
pub mod Trees
