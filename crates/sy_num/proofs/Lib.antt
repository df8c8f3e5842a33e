pub mod Computed
pub mod Residues
pub mod Theorems
