pub mod Labels
pub mod Views
pub mod Answers
pub mod Together
