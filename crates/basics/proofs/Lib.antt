pub mod Booleans
pub mod Searches
pub mod Gathered
pub mod Arrays
