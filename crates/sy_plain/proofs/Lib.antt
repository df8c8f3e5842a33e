pub mod ListLemmas
pub mod AnswerLemmas
pub mod HoldLemmas
pub mod EndingLemmas
pub mod StepLemmas
pub mod RunLemmas
