pub mod Refused
pub mod Fronts
pub mod Levels
pub mod Rooms
pub mod Turns
