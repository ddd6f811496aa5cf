pub mod Types
pub mod Stepping
pub mod Inner
