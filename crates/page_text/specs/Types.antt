-- The types that this crate's definitions speak of, under one name each.
pub use Rattle.flow_table.specs.declared.operation.TableOperation.{TableOperation}
pub use Rattle.flow_table.specs.declared.operation.Operation.{Operation}
pub use Rattle.trace_events.specs.declared.event.Event.{Event}
pub use Rattle.trace_events.specs.declared.trace.Trace.{Trace}
pub use Rattle.call_answers.specs.declared.list.Counts.{Counts}
pub use Rattle.page_lines.specs.declared.line.PairLine.{PairLine}
