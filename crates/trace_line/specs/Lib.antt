pub mod Types
pub mod EventLine
pub mod Written
