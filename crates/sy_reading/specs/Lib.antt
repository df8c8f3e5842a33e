pub mod Exprs
pub mod Input
pub mod Laws
pub mod Parts
pub mod Reading
pub mod Stmts
pub mod Tables
