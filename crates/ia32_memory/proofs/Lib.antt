pub mod First
pub mod Finding
pub mod Storing
pub mod Keeping
pub mod KeepingCells
