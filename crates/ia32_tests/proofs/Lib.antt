mod Allocated
mod Example
mod Table
mod Ends
