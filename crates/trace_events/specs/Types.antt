-- The types that this crate's definitions speak of, under one name each.
pub use Rattle.flow.specs.declared.matching.Match.{Match}
pub use Rattle.flow.specs.declared.matching.Packet.{Packet}
pub use Rattle.flow.specs.declared.entry.Key.{Key}
pub use Rattle.flow.specs.declared.entry.Entry.{Entry}
pub use Rattle.flow_table.specs.declared.operation.Origin.{Origin}
pub use Rattle.flow_table.specs.declared.operation.TableOperation.{TableOperation}
pub use Rattle.flow_table.specs.declared.operation.Operation.{Operation}
pub use Rattle.trace_events.specs.declared.tokens.Tokens.{Tokens}
pub use Rattle.trace_events.specs.declared.head.Head.{Head}
pub use Rattle.trace_events.specs.declared.side.Side.{Side}
pub use Rattle.trace_events.specs.declared.event.Event.{Event}
pub use Rattle.trace_events.specs.declared.trace.Trace.{Trace}
