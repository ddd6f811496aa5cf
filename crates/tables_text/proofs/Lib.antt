pub mod RowFormat
pub mod Lines
pub mod Sorting
pub mod Checks
pub mod Accepted
pub mod Meaning
pub mod KeyTwice
