mod ListLemmas
pub mod WaitLemmas
mod BufferLemmas
pub mod SettleLemmas
pub mod AskLemmas
pub mod TurnLemmas
pub mod RunLemmas
pub mod AloneLemmas
