use native.Mathlib.Omega.{arith}
use Rattle.text_numbers.proofs.Writing.{put_then, print_length}
use Rattle.refusals_text.specs.Report.{key_number}
use Rattle.refusals_text.proofs.put_key_number.Goals as goal

pub returns : goal.returns
unfolding key_number
returns c = record { put = put_then c.put_bytes-n.ensures c.put_number.ensures; upper_bound = omega (arith, c.put_bytes-n.ensures.after, c.put_number.ensures.after, c.requires, print_length c.args.v) }
