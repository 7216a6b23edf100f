pub mod Laws
pub mod DeclaresLaws
pub mod Names
pub mod IdentifiersLaws
pub mod Named
