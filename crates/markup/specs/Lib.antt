pub mod Plain
pub mod Marked
pub mod Laws
