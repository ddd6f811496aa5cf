-- The item of an answer, by its form.
-- Assumes nothing.
use mathlib.Core.Bool.{true, false}
use mathlib.Core.Path.{◌≡◌}
use borrow.Author.Rules.{rules}
use Rattle.text_numbers.proofs.Writing.{put_none}
use Rattle.replay_answers.specs.Answers.{print_item}
use Rattle.replay_answers.proofs.answers.put_item.Goals as goal

pub returns-in-Silent : goal.returns-in-Silent
unfolding print_item
returns-in-Silent c = rw c.in-Silent.is (put_none _ _)

pub returns-in-Miss : goal.returns-in-Miss
unfolding print_item
returns-in-Miss c = rw c.in-Miss.is c.put_bytes.ensures

pub returns-in-Hit : goal.returns-in-Hit
returns-in-Hit c = rw c.in-Hit.is c.put_hit.ensures

pub returns-in-Done-true : goal.returns-in-Done-true
unfolding print_item
returns-in-Done-true c = let yes : c.in-Done-true.field-0 ≡ true = search rules in rw (c.in-Done-true.is, yes) c.put_bytes-in-Done-true.ensures

pub returns-in-Done-false : goal.returns-in-Done-false
unfolding print_item
returns-in-Done-false c = let no : c.in-Done-false.field-0 ≡ false = search rules in rw (c.in-Done-false.is, no) c.put_bytes-in-Done-false.ensures
