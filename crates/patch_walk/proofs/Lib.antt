pub mod Names
pub mod Learning
pub mod Falling
pub mod Patches
pub mod Above
pub mod Climbing
pub mod Reaching
pub mod Pinning
