use native.Mathlib.Omega.{arith}
use Rattle.bit_sets.proofs.Members.{all_words, or_member}
use Rattle.bit_sets.proofs.sets.union.Goals as goal

pub returns : goal.returns
returns g c = or_member _ _ _ _ (all_words _ _ _ _ _ _ c.loop-w.invariant (omega arith))
