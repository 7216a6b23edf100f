pub mod Lists
mod Apart
mod Beside
mod Single
pub mod Keeping
mod Reaching
mod PlaceKinds
mod Advancing
mod Stuck
mod Counting
pub mod Starting
mod Doing
mod SpelledCopies
mod LegalMoves
