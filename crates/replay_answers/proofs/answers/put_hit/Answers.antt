-- The item of a hit: its priority, how many entries fit at it and the action, each put behind the one before.
-- Assumes nothing.
use native.Mathlib.Omega.{arith}
use Rattle.text_numbers.proofs.Writing.{put_then, print_length}
use Rattle.replay_answers.specs.Answers.{print_item}
use Rattle.replay_answers.proofs.answers.put_hit.Goals as goal

-- The item of a hit: its priority, how many entries fit at it and the action, each put behind the one before.
-- Assumes nothing.
pub put_bytes-c-requires : goal.put_bytes-c-requires
put_bytes-c-requires c = omega (arith, c.put_number-b.ensures.after, c.put_bytes-a.ensures.after, print_length c.args.priority, print_length c.args.count)

pub put_number-d-requires : goal.put_number-d-requires
put_number-d-requires c = omega (arith, c.put_bytes-c.ensures.after, c.put_number-b.ensures.after, c.put_bytes-a.ensures.after, print_length c.args.priority, print_length c.args.count)

pub put_bytes-e-requires : goal.put_bytes-e-requires
put_bytes-e-requires c = omega (arith, c.put_number-d.ensures.after, c.put_bytes-c.ensures.after, c.put_number-b.ensures.after, c.put_bytes-a.ensures.after, print_length c.args.priority, print_length c.args.count)

pub put_action-requires : goal.put_action-requires
put_action-requires c = omega (arith, c.put_bytes-e.ensures.after, c.put_number-d.ensures.after, c.put_bytes-c.ensures.after, c.put_number-b.ensures.after, c.put_bytes-a.ensures.after, print_length c.args.priority, print_length c.args.count)

pub returns : goal.returns
unfolding print_item
returns c =
    put_then c.put_bytes-a.ensures
    (put_then c.put_number-b.ensures
    (put_then c.put_bytes-c.ensures
    (put_then c.put_number-d.ensures
    (put_then c.put_bytes-e.ensures c.put_action.ensures))))
