pub mod NameLemmas
pub mod CellLemmas
pub mod WrongLemmas
pub mod ReadLemmas
