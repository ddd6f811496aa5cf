pub mod Types
pub mod List
pub mod Counting
pub mod Inner
