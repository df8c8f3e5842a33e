pub mod SumLemmas
pub mod EntryCountLemmas
pub mod ErrorLemmas
pub mod BufferCountLemmas
