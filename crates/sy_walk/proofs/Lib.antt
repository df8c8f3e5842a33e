pub mod ArgumentLemmas
pub mod FormLemmas
pub mod ValueLemmas
