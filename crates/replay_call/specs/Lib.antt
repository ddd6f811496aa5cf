pub mod Types
pub mod Replay
pub mod Inner
pub mod Held
