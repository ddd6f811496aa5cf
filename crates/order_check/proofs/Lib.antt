pub mod Flags
pub mod SearchLaws
pub mod ByRows
pub mod Accepted
pub mod RecordedBytes
