-- The types that this crate's definitions speak of, under one name each.
pub use Rattle.rows.specs.Types.{Operation, Answer}
pub use Rattle.flow_table.specs.Types.{Packet}
pub use Rattle.flow_table.specs.declared.operation.Origin.{Origin}
pub use Rattle.flow_table.specs.declared.operation.TableOperation.{TableOperation}
pub use Rattle.flow_table.specs.declared.effect.Effect.{Effect}
pub use Rattle.rows.specs.declared.row.Row.{Row}
pub use Rattle.trace_events.specs.declared.event.Event.{Event}
pub use Rattle.replay_answers.specs.declared.kept.Kept.{Kept}
