pub mod Sources
pub mod Visits
pub mod Rows
