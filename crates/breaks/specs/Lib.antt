pub mod Breaks
pub mod Laws
