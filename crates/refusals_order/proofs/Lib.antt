pub mod Causes
pub mod Texts
pub mod Traces
pub mod Tables
pub mod Orders
pub mod Calls
pub mod Demand1
