pub mod Types
pub mod PairLines
pub mod Inner
