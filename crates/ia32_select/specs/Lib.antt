pub mod EdgeMoves
pub mod Exits
pub mod MoveTables
pub mod Room
pub mod Selections
pub mod Sites
pub mod Sizes
