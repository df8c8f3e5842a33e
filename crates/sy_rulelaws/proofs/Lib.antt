pub mod CodeLemmas
pub mod LookLemmas
pub mod TreeLemmas
pub mod UnitLemmas
