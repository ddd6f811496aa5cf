-- The types that this crate's definitions speak of, under one name each.
pub use Rattle.rows.specs.Types.{Action, Key, Operation, Answer}
pub use Rattle.rows.specs.declared.row.Row.{Row}
pub use Rattle.rows_step.specs.declared.work.Work.{Work}
pub use Rattle.trace_events.specs.declared.event.Event.{Event}
pub use Rattle.replay_answers.specs.declared.kept.Kept.{Kept}
pub use Rattle.slots_run.specs.declared.stepping.Stepped.{Stepped}
pub use Rattle.slots_run.specs.declared.running.Ended.{Ended}
pub use Rattle.rows_step.specs.declared.work.Change.{Change}
pub use Rattle.slots.specs.declared.plan.Put.{Put}
pub use Rattle.slots.specs.declared.plan.Reply.{Reply}
pub use Rattle.slots.specs.declared.plan.Plan.{Plan}
pub use Rattle.slots.specs.declared.plan.Steps.{Steps}
pub use Rattle.slots.specs.declared.plan.State.{State}
