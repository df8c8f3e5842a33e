pub mod PlacingLemmas
pub mod ThreadLemmas
