pub mod Types
pub mod Share
