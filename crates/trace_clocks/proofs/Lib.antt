pub mod EarliestLaws
pub mod PassLaws
pub mod Meaning
