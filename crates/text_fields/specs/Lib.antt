pub mod Types
pub mod Print
pub mod Read
pub mod Written
