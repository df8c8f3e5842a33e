pub mod ObjectLemmas
pub mod OperandLemmas
