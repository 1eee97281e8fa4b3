pub mod Undoing
pub mod Stepping
pub mod Logging
pub mod Keeping
pub mod Heads
