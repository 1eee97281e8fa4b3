pub mod Reading
pub mod Values
pub mod Printed
pub mod Laws
