pub mod TokenListLaws
pub mod TokenListFormat
