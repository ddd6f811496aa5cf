-- The invariant: what is seen from a slot on, beside the answer so far, is what is seen of all.
use mathlib.Core.Path.{◌≡◌}
use Rattle.slots_run.proofs.Looking.{Looking}
use Rattle.slots_run.proofs.lookup.look_up.Given as goal

abbrev pub invariant-loop-i : goal.invariant-loop-i
invariant-loop-i l = (l.i-iterator.set ≡ l.fn.fitting) × Looking l.fn.fitting l.priorities l.actions l.answer l.i-iterator.from
