-- What a source gives, what a sink takes, and how faults are counted.
pub mod Faults
pub mod Known
pub mod ReadStop
pub mod Calls
pub mod Memory
