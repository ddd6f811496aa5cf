use native.Mathlib.Omega.{arith}
use lib.ListN.{length-take}
use Rattle.rows.specs.Rows.{rows_of, same_slot}
use Rattle.slots.proofs.Held.{mark_inside}
use Rattle.slots_plan.proofs.Finding.{slot_here}
use Rattle.slots_plan.proofs.slot.slot_of.Goals as goal

pub returns-clause-slot : goal.returns-clause-slot
returns-clause-slot c = rw c.unwrap_or.ensures (slot_here _ _ c.place_of.result c.place_of.ensures.stands c.place_of.ensures.goes c.requires.found)

pub returns-clause-few : goal.returns-clause-few
returns-clause-few c =
    let slots = c.args.slots.now in
    let mark = slot_here _ _ c.place_of.result c.place_of.ensures.stands c.place_of.ensures.goes c.requires.found in
    let inside = mark_inside (same_slot c.args.row.now) (rows_of slots) _ mark in
    omega (arith, inside, length-take slots.len slots.rows, c.requires.few, c.unwrap_or.ensures)
