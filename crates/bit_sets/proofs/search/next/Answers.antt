use native.Mathlib.Omega.{arith}
use Rattle.bit_sets.proofs.NextLaws.{found, passed_word, none_left}
use Rattle.bit_sets.proofs.search.next.Goals as goal

pub returns-in-Some : goal.returns-in-Some
returns-in-Some g c = found _ _ _ _ c.loop-w.invariant (omega arith) c.in-Some.bit c.in-Some.ensures

pub loop-w-preserved : goal.loop-w-preserved
loop-w-preserved g c = passed_word _ _ _ _ c.loop-w.invariant c.in_default.ensures

pub returns : goal.returns
returns g c = none_left _ _ _ _ c.loop-w.invariant (omega arith)
