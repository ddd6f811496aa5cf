pub mod Types
pub mod Shared
