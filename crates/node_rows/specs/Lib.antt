pub mod Rows
pub mod Measures
