pub mod TurnLemmas
pub mod StepLaws
