use lib.Bits.{bit_or}
use Rattle.bit_sets.proofs.Members.{WordsBelow}
use Rattle.bit_sets.proofs.sets.union.Given as goal

abbrev pub invariant-loop-w : goal.invariant-loop-w
invariant-loop-w g l = WordsBelow bit_or l.fn.a l.b l.word-items g.row.N l.w
