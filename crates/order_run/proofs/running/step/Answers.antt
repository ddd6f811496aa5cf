use mathlib.Core.Path.{refl, ◌∙◌}
use native.Mathlib.Omega.{arith}
use Rattle.basics.proofs.Booleans.{was_false, was_true}
use Rattle.rows_step.proofs.Passing.{left_sorted, left_met, left_none, left_put, pass_answered}
use Rattle.order_run.proofs.RunLaws.{work_for_operation}
use Rattle.order_run.proofs.running.step.Goals as goal

pub pass-passed-requires-clause-fresh : goal.pass-passed-requires-clause-fresh
pass-passed-requires-clause-fresh c = (work_for_operation c.args.operation c.event_work-work.ensures).fresh

pub put-requires : goal.put-requires
put-requires c =
    let work = work_for_operation c.args.operation c.event_work-work.ensures in
    (omega (arith, c.pass-passed.ensures.few, c.requires.0), left_sorted c.args.operation _ _ work c.pass-passed.ensures.rows c.requires.1)

pub returns-in-Some-clause-step : goal.returns-in-Some-clause-step
returns-in-Some-clause-step c =
    let work = work_for_operation c.args.operation c.event_work-work.ensures in
    let left = c.pass-passed.ensures in
    (c.put.ensures.put ∙ left_put c.args.operation _ _ work left.rows left.met (was_false refl c.if-not-passed.true) c.in-Some.is, pass_answered c.args.operation _ work left.answer)

pub returns-in_default-clause-step : goal.returns-in_default-clause-step
returns-in_default-clause-step c =
    let work = work_for_operation c.args.operation c.event_work-work.ensures in
    let left = c.pass-passed.ensures in
    (left_none c.args.operation _ _ work left.rows left.met (was_false refl c.if-not-passed.true) c.in_default.is, pass_answered c.args.operation _ work left.answer)

pub returns-else-not-passed-clause-step : goal.returns-else-not-passed-clause-step
returns-else-not-passed-clause-step c =
    let work = work_for_operation c.args.operation c.event_work-work.ensures in
    let left = c.pass-passed.ensures in
    (left_met c.args.operation _ _ work left.rows left.met (was_true refl c.if-not-passed.false), pass_answered c.args.operation _ work left.answer)
