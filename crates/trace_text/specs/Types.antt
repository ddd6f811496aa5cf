-- The types that this crate's definitions speak of, under one name each.
pub use Rattle.refusals.specs.declared.refusal.Refusal.{Refusal}
pub use Rattle.refusals.specs.declared.refusal.Source.{Source}
pub use Rattle.text_lines.specs.declared.limits.Limit.{Limit}
pub use Rattle.trace_events.specs.declared.event.Event.{Event}
pub use Rattle.trace_events.specs.declared.tokens.Tokens.{Tokens}
pub use Rattle.trace_events.specs.declared.trace.Trace.{Trace}
