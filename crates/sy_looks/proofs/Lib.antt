pub mod LookLemmas
pub mod ListLookLemmas
