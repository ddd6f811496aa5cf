-- The types that this crate's definitions speak of, under one name each.
pub use Rattle.trace_events.specs.declared.event.Event.{Event}
pub use Rattle.trace_events.specs.declared.trace.Trace.{Trace}
pub use Rattle.rows.specs.declared.row.Row.{Row}
pub use Rattle.rows.specs.declared.row.Rows.{Rows}
pub use Rattle.inputs.specs.declared.BothRead.{BothRead}
pub use Rattle.inputs.specs.declared.Inputs.{Inputs}
