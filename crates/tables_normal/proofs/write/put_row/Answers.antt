use native.Mathlib.Omega.{arith}
use Rattle.text_numbers.proofs.Writing.{put_then, print_length}
use Rattle.text_put_fields.proofs.Lengths.{entry_length}
use Rattle.tables_text.specs.TableText.{print_row}
use Rattle.tables_normal.proofs.write.put_row.Goals as goal

pub put_entry-c-requires : goal.put_entry-c-requires
put_entry-c-requires c = omega (arith, c.put_number-b.ensures.after, c.put_bytes-a.ensures.after, print_length c.args.row.switch)

pub put_bytes-requires : goal.put_bytes-requires
put_bytes-requires c = omega (arith, c.put_entry-c.ensures.after, c.put_number-b.ensures.after, c.put_bytes-a.ensures.after, print_length c.args.row.switch, entry_length c.args.row.entry)

pub returns : goal.returns
unfolding print_row
returns c = put_then (put_then (put_then c.put_bytes-a.ensures c.put_number-b.ensures) c.put_entry-c.ensures) c.put_bytes.ensures
