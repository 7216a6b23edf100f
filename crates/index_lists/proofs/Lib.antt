pub mod Callers
pub mod Calls
pub mod Indexed
pub mod Links
