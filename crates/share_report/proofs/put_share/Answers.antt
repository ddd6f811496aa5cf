-- The three numbers, one behind another.
use native.Mathlib.Omega.{arith}
use Rattle.text_numbers.proofs.Writing.{put_then, put_one}
use Rattle.share_report.specs.Report.{share_line}
use Rattle.share_report.proofs.put_share.Goals as goal

-- The three numbers, one behind another.
pub returns : goal.returns
unfolding share_line
returns c =
    record {
      put = put_then
          (put_then (put_then c.put_key_number-q.ensures.put c.put_key_number-r.ensures.put) c.put_key_number-d.ensures.put)
          (put_one _ 10 _ _ c.put_byte.ensures);
      upper_bound = omega (arith, c.put_key_number-d.ensures.upper_bound, c.put_key_number-r.ensures.upper_bound, c.put_key_number-q.ensures.upper_bound);
    }
