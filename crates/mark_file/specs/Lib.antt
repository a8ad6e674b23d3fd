pub mod Fields
pub mod Rows
pub mod Meaning
pub mod Unread
pub mod Corners
pub mod Written
