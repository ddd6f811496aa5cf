pub mod Types
pub mod Share
pub mod Meaning
