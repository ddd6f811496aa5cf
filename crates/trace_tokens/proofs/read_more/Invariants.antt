-- The invariant: what is read from the next place on, behind the numbers so far, is what all is read as.
use Rattle.trace_tokens.proofs.TokenListLaws.{Gathered}
use Rattle.trace_tokens.proofs.read_more.Given as goal

abbrev pub invariant-loop-i : goal.invariant-loop-i
invariant-loop-i l = Gathered l.s l.at l.first l.numbers l.i l.next
