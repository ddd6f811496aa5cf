use borrow.Author.Rules.{rules}
use native.Mathlib.Omega.{arith}
use mathlib.Core.Path.{◌≡◌}
use lib.ListN.{length}
use Rattle.trace_events.specs.Events.{events_of}
use Rattle.trace_events.proofs.TraceLaws.{length_events}
use Rattle.basics.proofs.Arrays.{length_mapped}
use Rattle.basics.proofs.Booleans.{was}
use Rattle.rows.specs.Rows.{rows_of, tables_of}
use Rattle.trials_call.proofs.Leaving.{lengths_uneven, bytes_short, bytes_written}
use Rattle.trials_call.proofs.trying.try_on.Goals as goal

pub returns-then-is_uneven : goal.returns-then-is_uneven
returns-then-is_uneven c =
    let size : length (events_of c.args.t) ≡ c.args.t.len = let n : length c.args.t.events ≡ 256 = search (rules, length_mapped, c.well_formed.0) in length_events c.args.t (omega (arith, c.requires.0)) in
    lengths_uneven _ (events_of c.args.t) (tables_of (rows_of c.args.start)) c.args.orders.now c.args.out.now (size) (was c.is_uneven.ensures c.if-is_uneven.true)

pub returns-then-out-m : goal.returns-then-out-m
returns-then-out-m c =
    let size : length (events_of c.args.t) ≡ c.args.t.len = let n : length c.args.t.events ≡ 256 = search (rules, length_mapped, c.well_formed.0) in length_events c.args.t (omega (arith, c.requires.0)) in
    bytes_short _ (events_of c.args.t) (tables_of (rows_of c.args.start)) c.args.orders.now c.args.out.now (size) (was c.is_uneven.ensures c.if-is_uneven.false)
    c.order_count-m.ensures c.if-out-m.true

pub try_all-requires : goal.try_all-requires
try_all-requires c = (c.requires.0, c.requires.1, c.requires.2, was c.is_uneven.ensures c.if-is_uneven.false, c.order_count-m.ensures, omega (arith, c.if-out-m.false))

pub returns : goal.returns
returns c =
    let size : length (events_of c.args.t) ≡ c.args.t.len = let n : length c.args.t.events ≡ 256 = search (rules, length_mapped, c.well_formed.0) in length_events c.args.t (omega (arith, c.requires.0)) in
    bytes_written _ (events_of c.args.t) (tables_of (rows_of c.args.start)) c.args.orders.now c.args.out.now (size) (was c.is_uneven.ensures c.if-is_uneven.false)
    c.order_count-m.ensures (omega (arith, c.if-out-m.false)) c.try_all.ensures
