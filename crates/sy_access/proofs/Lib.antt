pub mod Meeting
pub mod Written
pub mod Equal
