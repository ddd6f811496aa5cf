pub mod Types
pub mod Causality
pub mod Inner
