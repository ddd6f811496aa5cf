pub mod Searched
pub mod Inserted
pub mod Found
