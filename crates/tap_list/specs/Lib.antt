pub mod Chains
pub mod Counts
pub mod Listeners
pub mod Lines
