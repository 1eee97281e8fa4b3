pub mod Matching
pub mod Finding
