pub mod Columns
pub mod Putting
pub mod Digits
