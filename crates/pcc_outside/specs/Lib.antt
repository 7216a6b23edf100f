pub mod Calls
pub mod Files
pub mod Held
pub mod Host
pub mod Memory
pub mod Streams
