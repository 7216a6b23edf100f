pub mod Rows
pub mod Lists
pub mod Scoped
pub mod Strings
pub mod Sized
pub mod Initialised
pub mod Itemised
pub mod PushedItems
mod GivenValues
mod PushedTrees
