pub mod Types
pub mod Events
pub mod Precedence
pub mod Clocks
pub mod Inner
