pub mod OperationFormat
pub mod OperationRanges
