pub mod Levelled
pub mod ListLemmas
pub mod SpellingLemmas
pub mod StatementLemmas
pub mod PlacementLemmas
