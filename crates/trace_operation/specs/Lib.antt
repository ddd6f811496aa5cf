pub mod Types
pub mod Operations
