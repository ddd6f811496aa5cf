use native.Mathlib.Omega.{arith}
use Rattle.text_numbers.proofs.Writing.{put_then, print_length, hex_length}
use Rattle.text_fields.specs.Print.{print_prefix}
use Rattle.text_put_fields.proofs.put_prefix.Goals as goal

pub put_bytes-length-requires : goal.put_bytes-length-requires
put_bytes-length-requires c = omega (arith, c.put_bytes-value.ensures.after, c.put_hex-slash.ensures.after, hex_length c.args.p.value)

pub put_number-requires : goal.put_number-requires
put_number-requires c = omega (arith, c.put_bytes-value.ensures.after, c.put_hex-slash.ensures.after, c.put_bytes-length.ensures.after, hex_length c.args.p.value)

pub returns : goal.returns
unfolding print_prefix
returns c = record { put = put_then c.put_bytes-value.ensures (put_then c.put_hex-slash.ensures (put_then c.put_bytes-length.ensures c.put_number.ensures)); reach = omega (arith, c.put_bytes-value.ensures.after, c.put_hex-slash.ensures.after, c.put_bytes-length.ensures.after, hex_length c.args.p.value, print_length c.args.p.length) }
