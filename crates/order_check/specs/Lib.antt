pub mod Types
pub mod Schedule
