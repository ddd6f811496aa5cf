-- The invariant: the slots that are passed are written.
use mathlib.Core.Path.{◌≡◌}
use Rattle.slots_run.proofs.Assigning.{Assigning}
use Rattle.slots_run.proofs.stepping.assign.Given as goal

abbrev pub invariant-loop-i : goal.invariant-loop-i
invariant-loop-i l = (l.i-iterator.set ≡ l.initial.i-iterator.set) × Assigning l.initial.i-iterator.set l.action l.initial.actions l.actions l.i-iterator.from
