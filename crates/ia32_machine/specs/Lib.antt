pub mod Answers
pub mod Loans
pub mod Code
pub mod Table
pub mod First
pub mod Runs
pub mod Performs
pub mod Lending
