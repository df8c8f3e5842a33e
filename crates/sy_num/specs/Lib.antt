pub mod Kinds
pub mod Scalars
pub mod Operators
