pub mod Commands
pub mod Form
pub mod Hosts
pub mod Laws
pub mod Numerals
pub mod Spots
pub mod Sums
