pub mod Paths
pub mod SentOut
