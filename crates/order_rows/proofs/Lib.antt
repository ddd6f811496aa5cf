pub mod EndTables
pub mod Answering
pub mod Turns
