use borrow.Author.Rules.{rules}
use native.Mathlib.Omega.{arith}
use mathlib.Core.Path.{◌≡◌, sym}
use lib.ListN.{length, length-take}
use Prim.Native.Nat.{◌≤◌}
use lib.Seq.{length-take-le}
use Rattle.trace_events.specs.Events.{events_of}
use Rattle.trace_events.proofs.TraceLaws.{length_events}
use Rattle.basics.proofs.Arrays.{length_mapped}
use Rattle.rows.specs.Rows.{rows_of}
use Rattle.order_check.proofs.RecordedBytes.{recorded_prefix}
use Rattle.slots_plan.proofs.Prepared.{prepared}
use Rattle.trials_call.proofs.Once.{events_only, from_rows}
use Rattle.trials_call.proofs.trying.try_all.Goals as goal

-- there are enough bytes of the recorded order
pub slice_bounds-try_each-end : goal.slice_bounds-try_each-end
slice_bounds-try_each-end c =
    let enough : c.args.t.len ≤ length c.recorded_order-recorded.result = omega (arith, c.requires.0, c.recorded_order-recorded.ensures.0) in
    sym (length-take-le _ _ enough)

pub invariant_of-shared : goal.invariant_of-shared
invariant_of-shared c =
    let size : length (events_of c.args.t) ≡ c.args.t.len = let n : length c.args.t.events ≡ 256 = search (rules, length_mapped, c.well_formed.0) in length_events c.args.t (omega (arith, c.requires.0)) in
    record { few = c.requires.0; events = events_only c.args.delay (events_of c.args.t) c.args.t.len size c.happens_before-earlier.result c.happens_before-earlier.ensures }

pub try_each-requires : goal.try_each-requires
try_each-requires c = (
  recorded_prefix c.recorded_order-recorded.result c.recorded_order-recorded.ensures.0 c.recorded_order-recorded.ensures.1 c.args.t.len c.requires.0,
  c.requires.3,
  c.requires.4,
  c.requires.5,
)

pub returns : goal.returns
returns c =
    let size : length (events_of c.args.t) ≡ c.args.t.len = let n : length c.args.t.events ≡ 256 = search (rules, length_mapped, c.well_formed.0) in length_events c.args.t (omega (arith, c.requires.0)) in
    let few : length (rows_of c.slots_of-slots.result) ≤ 512 = omega (arith, c.slots_of-slots.ensures.0, length-take c.slots_of-slots.result.len c.slots_of-slots.result.rows) in
    let once = prepared _ _ (rows_of c.slots_of-slots.result) _ _ _ _ few c.slots_of-slots.ensures.1 c.masks_of-masks.ensures c.plans_of-plans.ensures c.priorities_of-priorities.ensures c.start_of-begun.ensures in
    c.try_each.ensures _ _ _ (from_rows _ _ _ _ size _ _ _ c.happens_before-earlier.ensures once c.requires.2)
