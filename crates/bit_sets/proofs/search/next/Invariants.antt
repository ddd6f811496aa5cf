-- The invariant: no member from the start on before the place in word w.
use Rattle.bit_sets.proofs.NextLaws.{Passed}
use Rattle.bit_sets.proofs.search.next.Given as goal

abbrev pub invariant-loop-w : goal.invariant-loop-w
invariant-loop-w g l = Passed l.set l.from l.w l.place
