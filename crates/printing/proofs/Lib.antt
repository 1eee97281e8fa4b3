pub mod Joins
pub mod Mapped
mod Once
mod Shown
mod Texts
