pub mod RoundForests
pub mod Reading
