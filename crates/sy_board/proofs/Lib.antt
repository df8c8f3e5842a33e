pub mod ListLemmas
pub mod AnswerLemmas
pub mod SizeLemmas
pub mod EffectLemmas
