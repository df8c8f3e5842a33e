pub mod ListLemmas
pub mod EntryLemmas
pub mod SoundLemmas
pub mod InputLemmas
pub mod CountLemmas
pub mod KnownLemmas
pub mod AgreeLemmas
