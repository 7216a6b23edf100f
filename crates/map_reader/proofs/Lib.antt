pub mod AllRead
pub mod Compared
pub mod Cuts
pub mod Fronts
pub mod Parsed
pub mod Trees
