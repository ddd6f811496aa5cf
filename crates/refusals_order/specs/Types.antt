-- The types that this crate's definitions speak of, under one name each.
pub use Rattle.refusals.specs.declared.refusal.Refusal.{Refusal}
pub use Rattle.flow.specs.declared.prefix.Prefix.{Prefix}
pub use Rattle.flow.specs.declared.matching.Match.{Match}
pub use Rattle.flow_table.specs.declared.operation.Operation.{Operation}
pub use Rattle.flow_table.specs.declared.carried.Carried.{Carried}
pub use Rattle.trace_events.specs.declared.event.Event.{Event}
pub use Rattle.rows.specs.declared.row.Row.{Row}
pub use Rattle.call_answers.specs.declared.share.Share.{Share}
