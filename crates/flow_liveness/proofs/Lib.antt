pub mod Distancing
pub mod Edges
pub mod Leading
pub mod Listing
mod Marking
pub mod Overlays
mod Reaching
pub mod SameWay
mod Searching
mod Starting
pub mod Variables
pub mod Adding
pub mod Placed
pub mod Stepping
pub mod Using
pub mod Walks
pub mod Fitting
pub mod Naming
pub mod Outcomes
pub mod Settling
