mod Places
pub mod Closed
pub mod Alike
pub mod Arms
pub mod Bodies
mod Cases
mod Comparisons
pub mod Ordered
mod Switched
pub mod Whole
pub mod Resting
