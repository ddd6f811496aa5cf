-- The invariant: the slots of the set that are passed have the same actions.
use mathlib.Core.Path.{◌≡◌}
use Rattle.slots_run.proofs.Comparing.{Comparing}
use Rattle.slots_run.proofs.ends.same_actions.Given as goal

abbrev pub invariant-loop-i : goal.invariant-loop-i
invariant-loop-i l = (l.i-iterator.set ≡ l.fn.set) × Comparing l.fn.set l.a l.b l.i-iterator.from
