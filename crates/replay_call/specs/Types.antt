-- The types that this crate's definitions speak of, under one name each.
pub use Rattle.refusals.specs.declared.refusal.Refusal.{Refusal}
pub use Rattle.flow_table.specs.declared.operation.Answer.{Answer}
pub use Rattle.trace_events.specs.declared.event.Event.{Event}
pub use Rattle.trace_events.specs.declared.trace.Trace.{Trace}
pub use Rattle.rows.specs.declared.row.Row.{Row}
pub use Rattle.rows.specs.declared.row.Rows.{Rows}
pub use Rattle.order_run.specs.declared.running.Ran.{Ran}
