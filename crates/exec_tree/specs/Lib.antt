pub mod Keys
pub mod KeyLaws
pub mod Prefixes
pub mod Forests
pub mod Kept
pub mod Growths
pub mod Merged
