pub mod Digests
pub mod Record
pub mod Reading
pub mod Fitting
