use native.Mathlib.Omega.{arith}
use mathlib.Core.Path.{◌≡◌}
use lib.ListN.{length}
use Rattle.refusals.proofs.Checks.{handed_back}
use Rattle.basics.proofs.Arrays.{length_mapped}
use Rattle.trace_events.specs.Events.{events_of}
use Rattle.trace_events.proofs.TraceLaws.{length_events}
use Rattle.order_check.proofs.ByRows.{rows_inside}
use Rattle.replay_call.proofs.Leaving.{events_few, order_short, order_told, order_refused, order_accepted}
use borrow.Author.Rules.{rules}
use Rattle.replay_call.proofs.replaying.replay_order.Goals as goal

pub check_order-requires : goal.check_order-requires
check_order-requires c =
    let size : length (events_of c.args.t) ≡ c.args.t.len = let n : length c.args.t.events ≡ 256 = search (rules, length_mapped, c.well_formed.0) in length_events c.args.t (omega (arith, c.requires.0)) in
    (c.requires.0, λ i j e. omega (arith, size, rows_inside _ (events_of c.args.t) c.happens_before-earlier.result c.happens_before-earlier.ensures i j e))

pub run_order-requires : goal.run_order-requires
run_order-requires c =
    let size : length (events_of c.args.t) ≡ c.args.t.len = let n : length c.args.t.events ≡ 256 = search (rules, length_mapped, c.well_formed.0) in length_events c.args.t (omega (arith, c.requires.0)) in
    let told = order_told _ _ _ c.happens_before-earlier.ensures c.args.order.now size c.in_ok-check_order.ensures in
    (c.requires.0, c.requires.1, c.requires.2, order_short _ (events_of c.args.t) c.args.order.now (events_few c.args.t c.requires.0) told)

pub returns-in_err-check_order : goal.returns-in_err-check_order
returns-in_err-check_order c =
    let size : length (events_of c.args.t) ≡ c.args.t.len = let n : length c.args.t.events ≡ 256 = search (rules, length_mapped, c.well_formed.0) in length_events c.args.t (omega (arith, c.requires.0)) in
    let told = order_told _ _ _ c.happens_before-earlier.ensures c.args.order.now size c.in_err-check_order.ensures in
    rw (handed_back c.from_residual.ensures.1) (order_refused _ _ _ _ _ _ told)

pub returns : goal.returns
returns c =
    let size : length (events_of c.args.t) ≡ c.args.t.len = let n : length c.args.t.events ≡ 256 = search (rules, length_mapped, c.well_formed.0) in length_events c.args.t (omega (arith, c.requires.0)) in
    let told = order_told _ _ _ c.happens_before-earlier.ensures c.args.order.now size c.in_ok-check_order.ensures in
    order_accepted _ _ _ _ _ _ told c.run_order.ensures
