pub mod RoundForests
pub mod RoundCoarsens
pub mod Reading
pub mod ReadingLaws
