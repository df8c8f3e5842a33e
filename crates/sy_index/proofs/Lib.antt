pub mod DoneLemmas
pub mod CountLemmas
pub mod SlotLemmas
pub mod CoverLemmas
pub mod EdgeLemmas
pub mod IndexLemmas
mod SuccessorLemmas
