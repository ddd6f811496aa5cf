pub mod Types
pub mod Meaning
pub mod Rising
pub mod Calls
pub mod Demand2
