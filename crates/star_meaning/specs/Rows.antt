-- Tables of small cells.
pub mod Arithmetic
pub mod Comparisons
pub mod Parts
pub mod Choices
pub mod Statements
pub mod BuiltinFunctions
pub mod ListMethods
pub mod DictMethods
pub mod TextMethods
pub mod Failures
pub mod Cells
pub mod Turns
pub mod LongCells
pub mod Snapshots
