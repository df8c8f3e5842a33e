pub mod ShownLemmas
pub mod AskShownLemmas
