use Prim.Native.Nat.{ℕ, ◌-◌}
use lib.Bits.{bit_and}
use Rattle.bit_sets.proofs.Members.{WordsBelow}
use Rattle.bit_sets.proofs.sets.without.Given as goal

abbrev pub invariant-loop-w : goal.invariant-loop-w
invariant-loop-w g l = WordsBelow (λ (x y : ℕ). bit_and x (18446744073709551615 - y)) l.fn.a l.b l.word-items g.row.N l.w
