use Prim.Native.Nat.{ℕ, ◌^◌, ◌<◌}
use borrow.Author.Rules.{rules}
use native.Mathlib.Omega.{arith}
use lib.ListN.{get_or}
use Rattle.bit_sets.proofs.Members.{all_words, without_member}
use Rattle.bit_sets.proofs.sets.without.Goals as goal

pub returns : goal.returns
returns g c =
    let word : (w : ℕ) → get_or c.args.b w 0 < 2 ^ 64 = λ w. search rules in
    without_member _ _ _ _ word (all_words _ _ _ _ _ _ c.loop-w.invariant (omega arith))
