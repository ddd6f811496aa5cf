pub mod Types
pub mod Values
