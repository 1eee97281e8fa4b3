pub mod Rows
mod Passes
mod Beginnings
mod WordSteps
