-- The four counts, one behind another: each place is that of its count.
use native.Mathlib.Omega.{arith}
use Rattle.text_numbers.proofs.Writing.{put_then, put_one}
use Rattle.list_report.specs.Report.{counts_line}
use Rattle.list_report.proofs.printing.put_counts.Goals as goal

-- The four counts, one behind another: each place is that of its count.
pub overflow_add-result : goal.overflow_add-result
overflow_add-result c =
    omega (
      arith,
      c.put_key_number-l.ensures.upper_bound,
      c.put_key_number-m.ensures.upper_bound,
      c.put_key_number-o.ensures.upper_bound,
      c.put_key_number-p.ensures.upper_bound,
      c.requires,
    )

pub returns : goal.returns
unfolding counts_line
returns c =
    put_then
    (put_then
    (put_then (put_then c.put_key_number-p.ensures.put c.put_key_number-o.ensures.put) c.put_key_number-m.ensures.put)
    c.put_key_number-l.ensures.put)
    (put_one _ 10 _ _ c.put_byte.ensures)
