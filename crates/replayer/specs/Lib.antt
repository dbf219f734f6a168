pub mod Nodes
pub mod Trees
pub mod Differences
pub mod Machines
pub mod Listening
pub mod Faults
pub mod Courses
