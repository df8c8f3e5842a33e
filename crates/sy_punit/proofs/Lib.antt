pub mod KeepLemmas
pub mod ParseLaws
pub mod UnitReadLemmas
pub mod UnitSoundLemmas
