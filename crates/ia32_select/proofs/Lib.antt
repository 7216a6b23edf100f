pub mod Bridging
mod Loops
pub mod Emitted
mod Counted
pub mod Fine
mod Gathering
mod Nexts
mod Offsets
mod Ranges
mod PointRows
pub mod RowSizes
mod Selected
pub mod Short
pub mod Sums
mod Tables
pub mod Whole
