pub mod RefusalLemmas
pub mod RunLaws
