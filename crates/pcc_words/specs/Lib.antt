pub mod App
pub mod Asked
pub mod Words
