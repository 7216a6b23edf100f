pub mod Chained
pub mod Known
pub mod Naming
pub mod Placing
pub mod Words
pub mod Alike
pub mod Joining
pub mod Calling
