pub mod Sets
pub mod Strung
pub mod Texts
pub mod Counts
pub mod Cleared
pub mod Change
mod Leaves
mod Cells
pub mod Cuts
pub mod Packs
pub mod Edit
