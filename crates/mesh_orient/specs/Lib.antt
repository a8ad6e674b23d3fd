pub mod Turns
pub mod Orients
