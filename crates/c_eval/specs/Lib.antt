pub mod Passing
pub mod AtOnce
pub mod Runs
pub mod Performs
pub mod Standing
pub mod Turns
pub mod Whole
