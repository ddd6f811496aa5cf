pub mod Types
pub mod Report
