-- Lemmas on totals, on the nodes of the tree and on a tree that is a part of a slice, for this crate and those above it; then those of its functions.
pub mod Total
pub mod Node
pub mod Part
mod Descent
mod Update
