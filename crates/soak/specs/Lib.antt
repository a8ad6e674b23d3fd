pub mod Draws
pub mod Grid
pub mod GridChecks
pub mod Rows
