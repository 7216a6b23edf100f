pub mod Exchange
pub mod Choices
pub mod Removals
pub mod Single
pub mod Taking
pub mod Ordered
pub mod NoFewer
