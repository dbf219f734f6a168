pub mod DigestLemmas
pub mod ReadingLemmas
pub mod RecordLemmas
pub mod NewlineLemmas
pub mod AgainLemmas
pub mod FittingLemmas
pub mod Laws
