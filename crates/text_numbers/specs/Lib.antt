pub mod Reading
pub mod Number
pub mod Print
pub mod Format
pub mod Inner
