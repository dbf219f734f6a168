pub mod Contents
pub mod Defined
pub mod Building
pub mod Decoding
pub mod Reading
pub mod Meeting
pub mod Writing
