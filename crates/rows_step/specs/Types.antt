-- The types that this crate's definitions speak of, under one name each.
pub use Rattle.rows.specs.Types.{Packet, Action, Key, Entry, Operation, Answer}
pub use Rattle.flow_table.specs.declared.effect.Effect.{Effect}
pub use Rattle.rows.specs.declared.row.Row.{Row}
pub use Rattle.rows.specs.declared.filter.Filter.{Filter}
pub use Rattle.rows_step.specs.declared.work.Change.{Change}
pub use Rattle.rows_step.specs.declared.work.Work.{Work}
