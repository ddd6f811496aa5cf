use native.Mathlib.Omega.{arith}
use Rattle.slots_plan.proofs.Turns.{work_here}
use Rattle.slots_plan.proofs.SlotLaws.{slots_start, slots_none, slots_one, slots_end}
use Rattle.slots_plan.proofs.gathering.slots_of.Goals as goal

pub loop-e-init : goal.loop-e-init
loop-e-init c = slots_start _ _ _ c.requires.0 c.requires.1

-- nothing is put in
pub loop-e-preserved-in_default : goal.loop-e-preserved-in_default
loop-e-preserved-in_default c =
    let work = work_here c.args.t c.loop-e.e c.operation_of-operation.ensures c.event_work-work.ensures in
    slots_none _ _ _ _ _ c.loop-e.invariant c.loop-e-test.true work c.in_default.is

-- a row is put in
pub loop-e-preserved : goal.loop-e-preserved
loop-e-preserved c =
    let work = work_here c.args.t c.loop-e.e c.operation_of-operation.ensures c.event_work-work.ensures in
    slots_one _ _ _ _ _ c.loop-e.invariant c.loop-e-test.true work c.in-Some.is _ _ c.put.ensures.few c.put.ensures.put

pub returns : goal.returns
returns c = (omega (arith, c.loop-e.invariant.count, c.loop-e.invariant.here), slots_end _ _ _ _ _ c.loop-e.invariant c.loop-e-test.false)
