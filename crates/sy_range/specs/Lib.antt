pub mod Shapes
pub mod LinearIds
pub mod NdRanges
