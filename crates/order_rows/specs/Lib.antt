pub mod Types
pub mod Runs
pub mod Inner
