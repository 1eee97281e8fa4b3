pub mod Scan
pub mod Starts
mod Ahead
