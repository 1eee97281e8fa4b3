pub mod Spots
mod Scan
mod Found
pub mod Comes
mod Remains
mod Passed
mod Fronts
mod After
mod Written
mod Shown
