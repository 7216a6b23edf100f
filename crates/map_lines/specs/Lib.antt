pub mod Parts
pub mod MapOf
pub mod MapLaws
pub mod Printing
pub mod VisitsLaws
