pub mod Oriented
pub mod Parts
pub mod Calls
