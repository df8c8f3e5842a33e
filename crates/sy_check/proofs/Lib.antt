pub mod CheckLemmas
pub mod ExpressionLemmas
