use mathlib.Core.Path.{ap}
use lib.ListN.{replicate}
use Rattle.trace_events.specs.Types.{Head, Operation, Trace}
use Rattle.trace_events.specs.Events.{no_trace}
use Rattle.trace_events.proofs.trace.Trace.empty.Goals as goal

-- a trace of lines with that head, and none of them counts
abbrev blank : Head → Trace
blank h = record { events = replicate 256 (record { head = h; operation = Operation.Other }); len = 0 }

pub returns : goal.returns
unfolding no_trace
returns c = ap blank c.empty-head.ensures
