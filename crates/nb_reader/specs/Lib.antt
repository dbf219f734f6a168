pub mod Reading
pub mod Notebook
pub mod Inputs
pub mod Manifest
