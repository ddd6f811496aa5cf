use native.Mathlib.Omega.{arith}
use mathlib.Core.Path.{refl}
use Rattle.text_numbers.proofs.Writing.{put_then, put_one}
use Rattle.page_text.proofs.Putting.{count_put}
use Rattle.page_text.proofs.counts.put_count.Goals as goal

pub returns : goal.returns
returns c = record { put = put_then (count_put _ _ refl c.put_bytes-n.ensures c.put_number_right-m.ensures.put) (put_one _ 10 _ _ c.put_byte.ensures); upper_bound = omega (arith, c.put_bytes-n.ensures.after, c.put_number_right-m.ensures.upper_bound, c.requires) }
