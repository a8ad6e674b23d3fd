pub mod Turned
pub mod SameTexts
pub mod Pairs
