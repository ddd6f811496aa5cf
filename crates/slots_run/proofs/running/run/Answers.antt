use Prim.Native.Nat.{◌<◌}
use native.Mathlib.Omega.{arith}
use mathlib.Core.Path.{◌≡◌}
use lib.ListN.{length, get_or}
use borrow.Author.Rules.{rules}
use Rattle.basics.proofs.Arrays.{length_mapped}
use Rattle.slots.specs.Inner.{idle}
use Rattle.slots_run.proofs.Writing.{other_default}
use Rattle.slots_run.proofs.RunLaws.{run_start, run_turn, run_end}
use Rattle.slots_run.proofs.running.run.Goals as goal

pub loop-event-init : goal.loop-event-init
loop-event-init c = run_start _ _ _ _ c.no_answers-answers.ensures.0 c.no_answers-answers.ensures.1

pub loop-event-preserved : goal.loop-event-preserved
loop-event-preserved c =
    let known : get_or c.args.order.now c.loop-event.event-index 0 < 256 = omega (arith, c.type_inv.order c.loop-event.event-index) in
    let long : length c.args.steps.now.plans ≡ 256 = search (rules, length_mapped) in
    let plan : get_or c.args.steps.now.plans c.from-e.result c.index-steps-e.result ≡ get_or c.args.steps.now.plans c.from-e.result idle = other_default c.args.steps.now.plans c.from-e.result _ idle (omega (arith, c.from-e.ensures)) in
    rw c.from-e.ensures (run_turn _ _ _ _ _ _ _ c.loop-event.invariant c.loop-event-test.true known _ c.step-stepped.result
    (λ slots f m. c.step-stepped.ensures slots f (rw (plan, c.from-e.ensures) m)))

pub returns : goal.returns
returns c = run_end _ _ _ _ _ _ _ c.loop-event.invariant (omega arith)
