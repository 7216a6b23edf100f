pub mod Overlap
pub mod Copies
pub mod Steps
pub mod Tests
