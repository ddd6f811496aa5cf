pub mod Joined
pub mod ByWords
pub mod Derived
