pub mod Stocks
pub mod Failing
