use Prim.Native.Nat.{◌≤◌}
use native.Mathlib.Omega.{arith}
use mathlib.Core.Path.{refl}
use lib.ListN.{length, length-take}
use Rattle.rows.specs.Rows.{rows_of}
use Rattle.slots_plan.proofs.StartLaws.{starting_none, starting_more, starting_end}
use Rattle.slots_plan.proofs.start.start_of.Goals as goal

pub loop-row-init : goal.loop-row-init
loop-row-init c = starting_none _ _ _ _ refl c.none-set.ensures

pub loop-row-preserved : goal.loop-row-preserved
loop-row-preserved c =
    let slots = c.args.slots in
    let few : length (rows_of slots) ≤ 512 = omega (arith, length-take slots.len slots.rows, c.requires.0) in
    starting_more _ _ _ _ _ c.loop-row.invariant _ c.requires.2 c.requires.3 c.loop-row-test.true _ few c.slot_of-at.ensures.slot c.with-more.ensures

pub returns : goal.returns
returns c = starting_end _ _ _ _ _ c.loop-row.invariant c.loop-row-test.false
