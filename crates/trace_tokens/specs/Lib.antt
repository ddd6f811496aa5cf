pub mod Types
pub mod TokenLists
