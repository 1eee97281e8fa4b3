pub mod Entry
pub mod Steps
pub mod Words
pub mod Log
pub mod Head
