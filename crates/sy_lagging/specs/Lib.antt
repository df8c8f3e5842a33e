pub mod Lagging
pub mod LastAnswers
