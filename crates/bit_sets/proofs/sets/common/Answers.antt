use native.Mathlib.Omega.{arith}
use Rattle.bit_sets.proofs.Members.{all_words, and_member}
use Rattle.bit_sets.proofs.sets.common.Goals as goal

pub returns : goal.returns
returns g c = and_member _ _ _ _ (all_words _ _ _ _ _ _ c.loop-w.invariant (omega arith))
