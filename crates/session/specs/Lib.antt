pub mod Memory
pub mod Acts
pub mod Range
pub mod Refusals
pub mod Contract
pub mod Desks
pub mod Undoing
pub mod Keeping
