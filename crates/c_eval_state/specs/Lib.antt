pub mod Views
pub mod Changes
pub mod Left
pub mod Streaming
pub mod Values
pub mod Spans
pub mod Kept
