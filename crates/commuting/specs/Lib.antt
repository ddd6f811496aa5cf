pub mod Types
pub mod Commuting
pub mod Marked
pub mod Inner
pub mod InnerFootprints
