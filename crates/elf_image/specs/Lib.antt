pub mod Layout
pub mod Fields
pub mod Segments
pub mod Headers
pub mod Extents
pub mod Worked
pub mod Pieces
pub mod MemoryExtents
