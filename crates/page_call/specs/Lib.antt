pub mod Types
pub mod Paged
pub mod Inner
