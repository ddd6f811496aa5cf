pub mod TableLaws
pub mod Effects
pub mod CarriedLaws
pub mod Meanings
pub mod Derived
