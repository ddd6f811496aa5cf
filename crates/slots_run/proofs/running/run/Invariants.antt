-- The invariant is a run's: the rest of the order does to the slots so far what the order does from the start.
use Rattle.slots_run.proofs.RunLaws.{Running}
use Rattle.slots_run.proofs.running.run.Given as goal

abbrev pub invariant-loop-event : goal.invariant-loop-event
invariant-loop-event l = Running l.steps l.order l.fn.start l.event-index l.answers l.set l.actions
