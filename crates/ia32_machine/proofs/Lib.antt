pub mod Kept
pub mod DecodedTable
pub mod First
pub mod Storing
pub mod Calls
pub mod Performs
pub mod Runs
pub mod FetchedTable
