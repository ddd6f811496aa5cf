pub mod Types
pub mod Refusals
pub mod Checks
pub mod Refused
