pub mod Programs
pub mod Answers
pub mod Stops
pub mod Inputs
pub mod Moves
pub mod Reductions
pub mod Collective
