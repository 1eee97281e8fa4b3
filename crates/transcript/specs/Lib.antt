pub mod Transcript
pub mod Serving
pub mod Open
pub mod OneSound
