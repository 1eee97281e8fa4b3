pub mod Kept
pub mod Leaves
pub mod Text
pub mod Props
