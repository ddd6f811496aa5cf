pub mod Types
pub mod Each
pub mod Left
