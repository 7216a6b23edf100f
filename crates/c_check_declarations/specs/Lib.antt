pub mod Views
pub mod DeclaratorAnswers
pub mod Forms
pub mod Together
pub mod ItemAnswers
pub mod Letters
pub mod InitialValues
