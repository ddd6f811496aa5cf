pub mod Types
pub mod Kinds
pub mod Inner
