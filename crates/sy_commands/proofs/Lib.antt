pub mod ClosureLemmas
pub mod ListLemmas
