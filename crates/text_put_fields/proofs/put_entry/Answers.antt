use native.Mathlib.Omega.{arith}
use Rattle.text_numbers.proofs.Writing.{put_then}
use Rattle.text_fields.specs.Print.{print_entry}
use Rattle.text_put_fields.proofs.Lengths.{key_length}
use Rattle.text_put_fields.proofs.put_entry.Goals as goal

pub put_bytes-b-requires : goal.put_bytes-b-requires
put_bytes-b-requires c = omega (arith, c.put_key-a.ensures.after, key_length c.args.e.key)

pub put_action-requires : goal.put_action-requires
put_action-requires c = omega (arith, c.put_key-a.ensures.after, key_length c.args.e.key, c.put_bytes-b.ensures.after)

pub returns : goal.returns
unfolding print_entry
returns c = put_then c.put_key-a.ensures (put_then c.put_bytes-b.ensures c.put_action.ensures)
