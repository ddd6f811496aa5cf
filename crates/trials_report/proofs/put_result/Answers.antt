use native.Mathlib.Omega.{arith}
use Rattle.text_numbers.proofs.Writing.{put_then, put_one}
use Rattle.trials_report.specs.Report.{result_line}
use Rattle.trials_report.proofs.Lines.{line_length_lem}
use Rattle.trials_report.proofs.put_result.Goals as goal

pub returns : goal.returns
unfolding result_line
returns c =
    let p = put_then (put_then c.put_key_number-a.ensures.put c.put_key_number-b.ensures.put) (put_one _ 10 _ _ c.put_byte.ensures) in
    record { put = p; upper_bound = omega (arith, p.after, line_length_lem c.args.order c.args.res c.requires.1 c.ranges.res.fits) }
