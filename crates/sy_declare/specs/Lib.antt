pub mod Declared
pub mod Trees
