use native.Mathlib.Omega.{arith}
use Rattle.text_numbers.proofs.Writing.{put_then, put_one}
use Rattle.list_report.specs.Report.{race_line}
use Rattle.list_report.proofs.printing.put_race.Goals as goal

pub returns : goal.returns
unfolding race_line
returns c = record { put = put_then (put_then c.put_key_number-a.ensures.put c.put_key_number-b.ensures.put) (put_one _ 10 _ _ c.put_byte.ensures); upper_bound = omega (arith, c.put_key_number-a.ensures.upper_bound, c.put_key_number-b.ensures.upper_bound) }
