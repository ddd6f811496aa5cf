use Prim.Native.Nat.{◌<◌}
use native.Mathlib.Omega.{arith}
use mathlib.Core.Path.{◌∙◌, ap}
use lib.ListN.{take, get_or}
use Rattle.rows_step.specs.Stepping.{step_rows, answer_rows}
use Rattle.order_rows.proofs.Turns.{rows_done, answers_done}
use Rattle.order_run.proofs.RunLaws.{operation_here, run_start, run_turn}
use Rattle.order_run.proofs.running.run.Goals as goal

pub loop-e-init : goal.loop-e-init
loop-e-init c = run_start _ _ _ _ _ c.no_answers-answers.ensures.0 c.no_answers-answers.ensures.1 c.requires.2

pub loop-e-preserved : goal.loop-e-preserved
loop-e-preserved c =
    let known : get_or c.args.order.now c.loop-e.e-index 0 < 256 = omega (arith, c.type_inv.order c.loop-e.e-index) in
    let here = c.operation_of-operation.ensures ∙ operation_here c.args.t (get_or c.args.order.now c.loop-e.e-index 0) in
    let rs = take c.loop-e.rows.len c.loop-e.rows.rows in
    run_turn _ _ _ _ _ _ _ _ c.loop-e.invariant c.loop-e-test.true known _ _ _ c.step.ensures.few (c.step.ensures.step.0 ∙ ap (λ o. step_rows o rs) here) (c.step.ensures.step.1 ∙ ap (λ o. answer_rows o rs) here)

pub returns : goal.returns
returns c =
    record {
      rows = rows_done _ _ _ _ _ _ c.loop-e.invariant.come c.loop-e-test.false;
      answers = answers_done _ _ _ _ _ _ c.loop-e.invariant.come c.loop-e-test.false;
      size = omega (arith, c.loop-e.invariant.count, c.loop-e.invariant.here);
    }
