pub mod Lines
pub mod Reads
pub mod Refusals
pub mod PlanLines
pub mod Verdicts
