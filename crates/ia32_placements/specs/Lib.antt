pub mod Standings
pub mod Placed
pub mod Laws
pub mod Worked
