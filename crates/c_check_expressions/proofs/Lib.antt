pub mod Operands
pub mod Together
pub mod Updates
pub mod Chosen
pub mod Quiet
pub mod Answered
pub mod TypeNames
pub mod Gathering
pub mod Library
mod NextGiven
mod Uncalled
