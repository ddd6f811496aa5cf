pub mod Types
pub mod PageOf
