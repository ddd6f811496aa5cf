-- The invariant: the lines of the events below i are put.
use Rattle.text_numbers.specs.Inner.{Put}
use Rattle.replay_answers.specs.Answers.{answers_text}
use Rattle.replay_answers.specs.Inner.{kept_at}
use Rattle.replay_answers.proofs.answers.write_answers.Given as goal

abbrev pub invariant-loop-i : goal.invariant-loop-i
invariant-loop-i l = Put (answers_text (kept_at l.fn.answers) l.i) 0 l.initial.out l.at l.out
