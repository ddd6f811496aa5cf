pub mod Types
pub mod Backward
pub mod Inner
