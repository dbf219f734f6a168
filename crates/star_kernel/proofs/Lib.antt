pub mod AlikeLemmas
pub mod KernelLemmas
pub mod SnapshotLemmas
