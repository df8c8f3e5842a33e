pub mod Sources
pub mod Core
pub mod Events
pub mod Over
pub mod Tally
pub mod Choice
pub mod Opening
