pub mod StepLemmas
pub mod LambdaLemmas
