pub mod SnapshotLemmas
