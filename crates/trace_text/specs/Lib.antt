pub mod Types
pub mod TraceText
pub mod Inner
pub mod Meaning
