pub mod Types
pub mod Allowed
pub mod Buffers
pub mod Demand3
