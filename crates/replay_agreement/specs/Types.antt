-- The types that this crate's definitions speak of, under one name each.
pub use Rattle.refusals.specs.declared.refusal.Refusal.{Refusal}
pub use Rattle.rows.specs.Types.{Action, Key, Entry, Ordering, Operation, Answer}
pub use Rattle.flow_table.specs.declared.effect.Effect.{Effect}
pub use Rattle.trace_events.specs.declared.event.Event.{Event}
pub use Rattle.rows.specs.declared.row.Row.{Row}
