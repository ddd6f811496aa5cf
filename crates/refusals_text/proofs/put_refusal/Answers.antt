use Rattle.refusals_text.proofs.Laws.{refusal_put}
use Rattle.text_numbers.proofs.Writing.{put_then, put_one}
use native.Mathlib.Omega.{arith}
use Rattle.refusals_text.proofs.put_refusal.Goals as goal

pub returns : goal.returns
returns c = record { put = refusal_put _ _ c.returned-returned.ensures (put_then (put_then c.put_key_number-n.ensures.put c.put_key_number-m.ensures.put) (put_one _ 10 _ _ c.put_byte.ensures)); upper_bound = omega (arith, c.put_key_number-n.ensures.upper_bound, c.put_key_number-m.ensures.upper_bound) }
