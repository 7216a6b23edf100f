pub mod Accepted
pub mod Refusals
pub mod SoFar
pub mod UnitLaws
pub mod Units
pub mod Answers
