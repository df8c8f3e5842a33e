pub mod SoundLemmas
pub mod ThreadLemmas
