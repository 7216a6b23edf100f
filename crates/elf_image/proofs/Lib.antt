pub mod Front
pub mod Loading
pub mod Apart
pub mod Pairs
pub mod MemoryExtents
