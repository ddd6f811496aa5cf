-- The types that this crate's definitions speak of, under one name each.
pub use Rattle.refusals.specs.declared.refusal.Refusal.{Refusal}
pub use Rattle.flow_table.specs.declared.operation.Answer.{Answer}
pub use Rattle.rows.specs.declared.row.Row.{Row}
