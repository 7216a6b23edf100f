pub mod Marks
pub mod Expressions
pub mod ExpressionTokens
pub mod Declarations
pub mod DeclarationTokens
pub mod Statements
pub mod StatementTokens
pub mod Grammar
