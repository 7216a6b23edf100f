mod Texts
mod Numbers
mod Rows
mod Told
mod Grown
mod Refused
pub mod Few
