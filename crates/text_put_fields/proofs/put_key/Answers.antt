use native.Mathlib.Omega.{arith}
use Rattle.text_numbers.proofs.Writing.{put_then, print_length}
use Rattle.text_fields.specs.Print.{print_key}
use Rattle.text_put_fields.proofs.put_key.Goals as goal

pub put_match-requires : goal.put_match-requires
put_match-requires c = omega (arith, c.put_bytes-a.ensures.after, c.put_number-b.ensures.after, print_length c.args.k.priority)

pub returns : goal.returns
unfolding print_key
returns c = put_then (put_then c.put_bytes-a.ensures c.put_number-b.ensures) c.put_match.ensures
