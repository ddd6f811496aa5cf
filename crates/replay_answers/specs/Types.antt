-- The types that this crate's definitions speak of, under one name each.
pub use Rattle.flow.specs.declared.action.Action.{Action}
pub use Rattle.flow_table.specs.declared.operation.Operation.{Operation}
pub use Rattle.flow_table.specs.declared.operation.Answer.{Answer}
pub use Rattle.flow_table.specs.declared.effect.Effect.{Effect}
pub use Rattle.replay_answers.specs.declared.kept.Kept.{Kept}
