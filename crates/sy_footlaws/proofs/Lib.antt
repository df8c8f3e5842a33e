pub mod CourseLemmas
pub mod GroupLemmas
pub mod KernelLemmas
pub mod LogLemmas
pub mod NumberLemmas
pub mod StandingLemmas
