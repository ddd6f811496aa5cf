-- The types that this crate's definitions speak of, under one name each.
pub use Rattle.flow_table.specs.Types.{Match, Packet, Action, Key, Entry, Ordering}
pub use Rattle.flow_table.specs.declared.operation.Operation.{Operation}
pub use Rattle.flow_table.specs.declared.operation.Answer.{Answer}
pub use Rattle.rows.specs.declared.row.Row.{Row}
pub use Rattle.rows.specs.declared.row.Rows.{Rows}
pub use Rattle.rows.specs.declared.filter.Filter.{Filter}
