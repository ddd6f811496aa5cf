pub mod RowOrder
pub mod RowLaws
pub mod TablesOf
pub mod Gathered
