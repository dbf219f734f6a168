pub mod IntLemmas
pub mod FirstsLemmas
pub mod KnownLemmas
pub mod GrowthLemmas
pub mod NumberLemmas
pub mod CutLemmas
pub mod StepLemmas
