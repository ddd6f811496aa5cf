pub mod FieldFormats
pub mod MatchFormats
pub mod EntryFormats
pub mod Ranges
