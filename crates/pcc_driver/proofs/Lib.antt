pub mod Ends
pub mod SoFar
pub mod SourcesStatus
pub mod SourcesTold
pub mod Causes
pub mod Exact
pub mod Files
pub mod Mapping
mod Ready
pub mod Refused
pub mod Running
pub mod Solving
pub mod CommandTold
pub mod Wanting
pub mod Written
pub mod EvalStatus
pub mod EvalTold
pub mod BoardStatus
pub mod Removing
pub mod OneEnd
pub mod Counting
pub mod Selftesting
pub mod SelftestStatus
mod Stopping
