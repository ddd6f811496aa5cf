use native.Mathlib.Omega.{arith}
use native.Mathlib.Nat.{add-zero}
use mathlib.Core.Path.{refl}
use mathlib.Core.List.{[]}
use Rattle.text_numbers.proofs.Writing.{put_none, put_length}
use Rattle.trials_report.proofs.Lines.{lines_turn, lines_done}
use Rattle.trials_report.proofs.put_results.Goals as goal

pub loop-i-init : goal.loop-i-init
loop-i-init c = (omega arith, omega arith, c.requires.0, c.requires.1, ([], put_none 0 _, rw add-zero refl))

pub put_result-at-requires : goal.put_result-at-requires
put_result-at-requires c = (omega arith, omega arith)

pub loop-i-preserved : goal.loop-i-preserved
loop-i-preserved c =
    let t = lines_turn c.args.first c.args.results.now c.args.out.now c.loop-i.i c.loop-i.invariant.4.1 c.loop-i.invariant.4.2 (omega arith) c.put_result-at.ensures.put in
    (omega arith, omega (arith, c.put_result-at.ensures.upper_bound), c.loop-i.invariant.2, c.loop-i.invariant.3, (_, t.0, t.1))

pub shape_of-out : goal.shape_of-out
shape_of-out c = put_length c.loop-i.invariant.4.1

pub returns : goal.returns
returns c = record { put = lines_done _ _ _ c.loop-i.i c.loop-i.invariant.4.1 c.loop-i.invariant.4.2 (omega arith); upper_bound = omega arith }
