pub mod WordLaws
pub mod WordFormat
