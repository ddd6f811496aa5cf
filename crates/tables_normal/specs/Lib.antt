pub mod Types
pub mod Normal
pub mod Inner
pub mod Calls
