pub mod WholeOrder
