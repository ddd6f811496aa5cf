pub mod Widths
pub mod PairColumns
pub mod Made
pub mod Plain
pub mod Unique
