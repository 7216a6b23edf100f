pub mod First
pub mod Areas
pub mod Writes
pub mod Loans
pub mod Cells
