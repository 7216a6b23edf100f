pub mod Copies
pub mod Kinds
pub mod Finding
pub mod Ways
pub mod Rows
pub mod Views
pub mod Passing
pub mod Operating
