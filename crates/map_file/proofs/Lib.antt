pub mod Ascending
pub mod Counted
pub mod Deciding
pub mod PiecesOrdered
pub mod Texts
pub mod Blocks
pub mod Variables
