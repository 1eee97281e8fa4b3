mod FileLines
mod Letters
mod Serving
mod Calls
