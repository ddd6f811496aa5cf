use native.Mathlib.Omega.{arith}
use mathlib.Core.Path.{refl}
use mathlib.Core.List.{[]}
use Rattle.text_numbers.proofs.Writing.{put_none, put_length}
use Rattle.list_report.specs.Report.{race_line}
use Rattle.list_pairs.proofs.EachPair.{behind_length, pairs_turn, pairs_done}
use Rattle.list_report.proofs.printing.put_races.Goals as goal

pub loop-left-init : goal.loop-left-init
loop-left-init c = (omega arith, c.requires, ([], put_none 0 _, refl))

pub loop-left-preserved : goal.loop-left-preserved
loop-left-preserved c =
    let t = pairs_turn race_line _ _ _ c.loop-left.invariant.2.1 c.loop-left.invariant.2.2 c.in-len2-up.len_at_least c.put_race-at.ensures.put in
    (omega (arith, c.put_race-at.ensures.upper_bound, behind_length c.loop-left.left.now c.in-len2-up.len_at_least), c.loop-left.invariant.1, (_, t.0, t.1))

pub shape_of-out : goal.shape_of-out
shape_of-out c = put_length c.loop-left.invariant.2.1

pub returns : goal.returns
returns c = record { put = pairs_done race_line _ _ _ c.loop-left.invariant.2.1 c.loop-left.invariant.2.2 (omega arith); upper_bound = omega arith }
