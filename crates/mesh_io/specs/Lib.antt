pub mod Decimals
pub mod Faults
pub mod Heads
pub mod ReadBack
pub mod Shelves
pub mod Sinks
pub mod Written
