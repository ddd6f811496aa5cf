-- The types that this crate's definitions speak of, under one name each.
pub use Rattle.rows.specs.Types.{Match, Action, Key, Entry, Operation, Answer}
pub use Rattle.rows.specs.declared.row.Row.{Row}
pub use Rattle.rows.specs.declared.row.Rows.{Rows}
pub use Rattle.rows_step.specs.declared.work.Change.{Change}
pub use Rattle.rows_step.specs.declared.work.Work.{Work}
pub use Rattle.trace_events.specs.declared.event.Event.{Event}
pub use Rattle.trace_events.specs.declared.trace.Trace.{Trace}
pub use Rattle.rows.specs.declared.filter.Filter.{Filter}
pub use Rattle.flow_bits.specs.declared.words.Word.{Word}
pub use Rattle.flow_bits.specs.declared.matches.Bits.{Bits}
pub use Rattle.slots_plan.specs.declared.asking.Question.{Question}
pub use Rattle.slots.specs.declared.plan.Put.{Put}
pub use Rattle.slots.specs.declared.plan.Reply.{Reply}
pub use Rattle.slots.specs.declared.plan.Plan.{Plan}
pub use Rattle.slots.specs.declared.plan.Steps.{Steps}
pub use Rattle.slots.specs.declared.plan.State.{State}
