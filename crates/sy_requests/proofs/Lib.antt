pub mod PairLemmas
pub mod NeedLemmas
