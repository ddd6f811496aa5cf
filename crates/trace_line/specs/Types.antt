-- The types that this crate's definitions speak of, under one name each.
pub use Rattle.refusals.specs.declared.refusal.Refusal.{Refusal}
pub use Rattle.flow_table.specs.declared.operation.Operation.{Operation}
pub use Rattle.trace_events.specs.declared.head.Head.{Head}
pub use Rattle.trace_events.specs.declared.event.Event.{Event}
pub use Rattle.trace_words.specs.declared.word.Word.{Word}
