pub mod Bounds
pub mod Sites
pub mod Entries
pub mod Chosen
pub mod Built
