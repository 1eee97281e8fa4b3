pub mod Writes
mod Words
mod Readings
pub mod ReadableIs
pub mod ReadsBack
pub mod ReadsOnly
pub mod OneAnswer
