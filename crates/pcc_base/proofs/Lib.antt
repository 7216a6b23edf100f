pub mod Congruence
pub mod Lists
pub mod Zeros
