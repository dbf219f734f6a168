pub mod Kernels
pub mod Restoring
pub mod Failing
pub mod Alike
