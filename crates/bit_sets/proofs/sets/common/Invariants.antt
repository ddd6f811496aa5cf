use lib.Bits.{bit_and}
use Rattle.bit_sets.proofs.Members.{WordsBelow}
use Rattle.bit_sets.proofs.sets.common.Given as goal

abbrev pub invariant-loop-w : goal.invariant-loop-w
invariant-loop-w g l = WordsBelow bit_and l.fn.a l.b l.word-items g.row.N l.w
