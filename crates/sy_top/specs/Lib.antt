pub mod Words
pub mod Notes
pub mod Sources
pub mod Headline
pub mod Judged
pub mod Trace
