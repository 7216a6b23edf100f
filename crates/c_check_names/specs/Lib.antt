pub mod Bindings
pub mod Views
pub mod Outers
