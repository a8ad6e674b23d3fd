pub mod FieldLemmas
pub mod UnreadLemmas
pub mod AcceptedLemmas
pub mod RoundLemmas
pub mod ReadLemmas
pub mod CornerLemmas
pub mod WrittenLemmas
