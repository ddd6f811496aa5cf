-- The types that this crate's definitions speak of, under one name each.
pub use Rattle.flow.specs.declared.matching.Packet.{Packet}
pub use Rattle.flow_table.specs.declared.operation.Origin.{Origin}
pub use Rattle.flow_table.specs.declared.operation.TableOperation.{TableOperation}
pub use Rattle.flow_table.specs.declared.operation.Operation.{Operation}
pub use Rattle.flow_table.specs.declared.effect.Effect.{Effect}
pub use Rattle.list_verdicts.specs.declared.verdict.Verdict.{Verdict}
pub use Rattle.list_verdicts.specs.declared.verdict.TableUse.{TableUse}
