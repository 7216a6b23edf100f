pub mod Stacking
pub mod Pieces
pub mod Spanned
pub mod Active
pub mod Named
pub mod Seen
