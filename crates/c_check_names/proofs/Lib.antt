pub mod Tables
pub mod Entities
pub mod MeaningNames
pub mod Sameness
pub mod Declarations
pub mod Numbering
