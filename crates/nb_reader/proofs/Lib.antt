pub mod ReadingLemmas
pub mod InputsLemmas
pub mod ManifestLemmas
