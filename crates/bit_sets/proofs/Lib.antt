pub mod BitLaws
pub mod Members
pub mod NextLaws
