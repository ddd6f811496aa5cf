pub mod OrderLaws
pub mod Held
