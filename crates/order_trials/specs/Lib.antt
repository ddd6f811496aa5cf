pub mod Types
pub mod Same
pub mod Trials
pub mod Inner
