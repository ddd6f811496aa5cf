pub mod RowsAreTables
pub mod Leaving
pub mod Theorems
