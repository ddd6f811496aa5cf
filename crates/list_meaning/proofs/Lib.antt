pub mod OfKind
pub mod Order
pub mod Bytes
pub mod Demand2
pub mod Delays
