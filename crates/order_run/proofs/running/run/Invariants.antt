-- A run that has come to a place of the order.
use lib.ListN.{take}
use Rattle.trace_events.specs.Events.{events_of}
use Rattle.order_run.proofs.RunLaws.{Runs}
use Rattle.order_run.proofs.running.run.Given as goal

abbrev pub invariant-loop-e : goal.invariant-loop-e
invariant-loop-e l = Runs (events_of l.t) l.order (take l.initial.rows.len l.initial.rows.rows) l.initial.rows.len l.e-index l.answers l.rows.len l.rows.rows
