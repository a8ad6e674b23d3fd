pub mod Falling
pub mod Ranking
pub mod Picking
pub mod Fewest
pub mod Choosing
pub mod Shares
