pub mod Running
pub mod Crews
pub mod Zips
pub mod Sharing
pub mod Making
pub mod Keeping
pub mod Leaving
pub mod Taking
