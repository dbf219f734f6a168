pub mod Headers
pub mod Summaries
