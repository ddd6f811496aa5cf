pub mod SameAnswers
pub mod Agreeing
pub mod Counting
pub mod OnRows
