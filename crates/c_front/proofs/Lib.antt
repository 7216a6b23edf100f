pub mod OneReading
pub mod OneFault
pub mod Reading
pub mod Totals
pub mod Units
pub mod OneAnswer
pub mod Reasons
