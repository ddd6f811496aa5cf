pub mod Types
pub mod FlowTable
pub mod Carried
pub mod Switches
pub mod Meanings
pub mod Derived
