pub mod DeclarationParts
pub mod Braces
pub mod StatementParts
pub mod ParserRefusals
pub mod Passing
