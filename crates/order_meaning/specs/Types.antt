-- The types that this crate's definitions speak of, under one name each.
pub use Rattle.flow_table.specs.declared.operation.Operation.{Operation}
pub use Rattle.flow_table.specs.declared.operation.Answer.{Answer}
