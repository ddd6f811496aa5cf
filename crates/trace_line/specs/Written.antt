-- Document 01, "Trace text": the ranges of what a line can say. As written, a prefix may have an address bit past its length
-- and `from` may be above `to`: such a line is refused for that, and no other way.
use Rattle.std.specs.Prelude.{◌<◌, ◌≤◌}
use Rattle.flow_table.specs.FlowTable.{effect_of, EffectInRange}
use Rattle.flow_table.specs.Switches.{switch_of}
use Rattle.trace_head.specs.Heads.{HeadWritten}
use Rattle.trace_operation.specs.Operations.{OperationWritten}
use Rattle.trace_line.specs.Types.{Event}

pub record EventWritten (e : Event) : Type 0 where
  pub head : HeadWritten e.head
  pub operation : OperationWritten e.operation

-- the ranges of document 01: what is done to a table is in range, the switch is one of sixteen, and `from` is not above `to`
pub record EventInRange (e : Event) : Type 0 where
  pub effect : EffectInRange (effect_of e.operation)
  pub switch : switch_of e.operation < 16
  pub clock : e.head.from ≤ e.head.to
