pub mod Shares
pub mod Leaves
pub mod Strategies
pub mod Picks
