use native.Mathlib.Omega.{arith}
use mathlib.Core.Path.{sym, ap, ◌∙◌}
use lib.ListN.{length-set}
use Rattle.rows.specs.Rows.{rows_of}
use Rattle.trace_events.specs.Events.{events_of}
use Rattle.slots.specs.Inner.{idle}
use Rattle.slots_plan.specs.Inner.{work_at, PlanFor}
use Rattle.slots_plan.proofs.Turns.{work_here, stored_more}
use Rattle.slots_plan.proofs.PlanLaws.{plan_here}
use Rattle.slots_plan.proofs.plans.plans_of.Goals as goal

pub plan_of-requires-clause-found : goal.plan_of-requires-clause-found
plan_of-requires-clause-found c x p =
    let is = work_here c.args.t c.loop-e.e c.operation_of-operation.ensures c.event_work-work.ensures in
    c.requires.2 c.loop-e.e c.loop-e-test.true x (sym (ap (λ w. w.put) is) ∙ p)

pub loop-e-preserved : goal.loop-e-preserved
loop-e-preserved c =
    let es = events_of c.args.t in
    let slots = rows_of c.args.slots in
    let is = work_here c.args.t c.loop-e.e c.operation_of-operation.ensures c.event_work-work.ensures in
    let made = plan_here slots es c.loop-e.e is c.plan_of.ensures.change c.plan_of.ensures.put c.plan_of.ensures.reply in (
      simp length-set c.loop-e.invariant.0,
      stored_more (λ k p. PlanFor slots (work_at es k) p) idle c.loop-e.plans c.loop-e.e (omega (arith, c.loop-e.invariant.0, c.loop-e-test.true)) made c.loop-e.invariant.1,
    )
