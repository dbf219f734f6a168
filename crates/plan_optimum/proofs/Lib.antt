pub mod Deeper
pub mod Weights
pub mod Grouped
pub mod Choosing
pub mod SiteLemmas
pub mod Lookups
pub mod Building
pub mod Optimal
