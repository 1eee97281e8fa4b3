pub mod Marks
pub mod Store
pub mod Edits
