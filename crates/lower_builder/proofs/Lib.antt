pub mod Building
pub mod Rows
pub mod Joined
pub mod Found
