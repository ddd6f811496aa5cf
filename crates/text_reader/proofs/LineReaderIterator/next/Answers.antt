-- A call hands out the first of the lines that are left.
use borrow.Author.Rules.{rules}
use mathlib.Core.Path.{ap}
use lib.ListN.{length}
use Rattle.text_reader.specs.Left.{lines_left}
use Rattle.text_reader.proofs.Reading.{left_none, left_more}
use Rattle.text_reader.proofs.LineReaderIterator.next.Goals as goal

pub returns-then-self-clause-steps : goal.returns-then-self-clause-steps
unfolding lines_left
returns-then-self-clause-steps c = let none = left_none _ _ c.if-self.true in (none, none)

pub returns-clause-steps : goal.returns-clause-steps
unfolding lines_left
returns-clause-steps c = left_more _ _ _ c.if-self.false c.line_from-line.ensures

pub returns-clause-goes : goal.returns-clause-goes
unfolding lines_left
returns-clause-goes c = let fewer = ap length (left_more _ _ _ c.if-self.false c.line_from-line.ensures) in record { on = λ _. search rules; keeps = search rules; rests = λ _. search rules }
