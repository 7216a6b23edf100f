pub mod Sections
pub mod Pieces
pub mod Parts
