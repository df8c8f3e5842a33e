pub mod Courses
pub mod Groups
pub mod Kernels
pub mod Standing
