-- The invariant: `at` is the length of the lines of the events below i.
use mathlib.Core.Path.{◌≡◌}
use lib.ListN.{length}
use Rattle.replay_answers.specs.Answers.{answers_text}
use Rattle.replay_answers.specs.Inner.{kept_at}
use Rattle.replay_answers.proofs.answers.answers_length.Given as goal

abbrev pub invariant-loop-i : goal.invariant-loop-i
invariant-loop-i l = l.at ≡ length (answers_text (kept_at l.fn.answers) l.i)
