pub mod CellLemmas
pub mod EarlierLemmas
pub mod NumberLemmas
pub mod RunLemmas
pub mod SparseLemmas
pub mod WriteLemmas
