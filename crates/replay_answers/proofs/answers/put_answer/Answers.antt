-- The line of an event: nothing for a silent answer, else `ev=`, its number, the answer's item and LF, each put behind the one before.
-- Assumes nothing.
use mathlib.Core.Path.{sym, ◌∙◌}
use native.Mathlib.Omega.{arith}
use Rattle.text_numbers.proofs.Writing.{put_none, put_then, print_length}
use Rattle.replay_answers.proofs.AnswerLaws.{item_length, line_of_lem, no_line}
use Rattle.replay_answers.proofs.answers.put_answer.Goals as goal

-- The line of an event: nothing for a silent answer, else `ev=`, its number, the answer's item and LF, each put behind the one before.
-- Assumes nothing.
pub returns-then-is_silent : goal.returns-then-is_silent
returns-then-is_silent c = rw (no_line _ _ (sym c.is_silent.ensures ∙ c.if-is_silent.true)) (put_none _ _)

pub put_item-c-requires : goal.put_item-c-requires
put_item-c-requires c = omega (arith, c.put_number-b.ensures.after, c.put_bytes-a.ensures.after, print_length c.args.ev)

pub put_bytes-requires : goal.put_bytes-requires
put_bytes-requires c = omega (arith, c.put_item-c.ensures.after, c.put_number-b.ensures.after, c.put_bytes-a.ensures.after, print_length c.args.ev, item_length c.args.answer)

pub returns : goal.returns
returns c =
    rw (line_of_lem _ _ (sym c.is_silent.ensures ∙ c.if-is_silent.false))
    (put_then c.put_bytes-a.ensures
    (put_then c.put_number-b.ensures
    (put_then c.put_item-c.ensures c.put_bytes.ensures)))
