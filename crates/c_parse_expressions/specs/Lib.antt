pub mod Places
pub mod Readings
pub mod Rows
pub mod Fronts
pub mod ExpressionReadings
pub mod Values
