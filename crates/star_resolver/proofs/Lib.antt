pub mod TextsLemmas
pub mod Walks
pub mod Layers
pub mod StatementLayers
pub mod Whole
