-- The types that this crate's definitions speak of, under one name each.
pub use Rattle.refusals.specs.declared.refusal.Refusal.{Refusal}
pub use Rattle.trace_events.specs.declared.event.Event.{Event}
pub use Rattle.trace_events.specs.declared.side.Side.{Side}
pub use Rattle.trace_events.specs.declared.trace.Trace.{Trace}
pub use Rattle.trace_clocks.specs.declared.earliest.Earliest.{Earliest}
