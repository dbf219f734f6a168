pub mod Stock
pub mod Live
