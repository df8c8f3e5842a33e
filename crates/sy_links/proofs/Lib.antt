pub mod ReadyLemmas
pub mod GraphLemmas
pub mod VersionLemmas
mod ExampleLemmas
pub mod PutBackLemmas
