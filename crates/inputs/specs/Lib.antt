pub mod Types
pub mod Inputs
pub mod Inner
