pub mod Least
pub mod Most
pub mod Removing
