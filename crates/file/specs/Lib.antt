pub mod Paper
pub mod Places
pub mod Laws
pub mod Words
pub mod Scan
pub mod File
