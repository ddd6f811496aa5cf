-- What is written, and has no address bit past its prefix and no range reversed, is in range.
use mathlib.Core.Bool.{true}
use mathlib.Core.Path.{◌≡◌}
use borrow.Author.Tests.{leb-true}
use Rattle.trace_operation.proofs.OperationRanges.{operation_range}
use Rattle.trace_line.specs.Types.{Event}
use Rattle.trace_line.specs.EventLine.{clear_event, range_kept}
use Rattle.trace_line.specs.Written.{EventWritten, EventInRange}

pub event_range : (e : Event) → EventWritten e → clear_event e ≡ true → range_kept e ≡ true → EventInRange e
event_range e w c k =
    let r = operation_range e.operation w.operation c in
    record { effect = r.0; switch = r.1; clock = leb-true e.head.from e.head.to k }
