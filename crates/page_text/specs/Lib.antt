pub mod Types
pub mod Page
pub mod Inner
