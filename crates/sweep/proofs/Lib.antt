pub mod Laws
mod Steps
mod Runs
mod Marks
mod Sets
mod Tallied
