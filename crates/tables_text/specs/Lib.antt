pub mod Types
pub mod TableText
pub mod Meaning
pub mod Inner
