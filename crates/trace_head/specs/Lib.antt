pub mod Types
pub mod Heads
