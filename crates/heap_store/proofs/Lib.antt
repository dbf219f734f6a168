pub mod Tested
pub mod PairLemmas
pub mod References
pub mod Kept
pub mod Bound
pub mod GivenItems
