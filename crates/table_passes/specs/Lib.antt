pub mod Answers
pub mod Crew
pub mod Joining
pub mod Kept
pub mod Late
pub mod Shares
pub mod Tasks
