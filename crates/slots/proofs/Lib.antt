pub mod Words
mod Steps
