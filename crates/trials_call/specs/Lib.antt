pub mod Types
pub mod Tried
pub mod Inner
