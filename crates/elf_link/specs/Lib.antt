pub mod Parts
pub mod Symbols
pub mod Placed
pub mod Linking
pub mod Layout
pub mod Laid
