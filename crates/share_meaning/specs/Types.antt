-- The types that this crate's definitions speak of, under one name each.
pub use Rattle.refusals.specs.declared.refusal.Refusal.{Refusal}
pub use Rattle.trace_events.specs.declared.event.Event.{Event}
pub use Rattle.call_answers.specs.declared.list.Counts.{Counts}
pub use Rattle.call_answers.specs.declared.share.Share.{Share}
