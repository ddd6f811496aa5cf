pub mod Types
pub mod Races
pub mod Inner
