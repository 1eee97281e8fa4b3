pub mod Spots
pub mod Seen
pub mod Found
pub mod Shown
pub mod Fronts
