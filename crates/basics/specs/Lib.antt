pub mod Text
pub mod Searches
