pub mod Types
pub mod Matches
pub mod Orders
pub mod Entries
pub mod TableOrder
pub mod Inner
pub mod Derived
