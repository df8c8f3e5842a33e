pub mod SettleLemmas
pub mod WriteLemmas
pub mod StepLemmas
pub mod RunLemmas
