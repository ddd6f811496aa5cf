pub mod LineFormat
pub mod EventRanges
