use Prim.Native.Nat.{◌^◌, ◌<◌}
use native.Mathlib.Omega.{arith}
use mathlib.Core.Path.{refl, ap, ◌∙◌}
use lib.ListN.{length, length-set}
use Rattle.order_meaning.specs.Orders.{from}
use borrow.Author.Rules.{rules}
use Rattle.rows.specs.Rows.{tables_of}
use Rattle.order_trials.specs.Trials.{order_at, order_byte}
use Rattle.order_trials.proofs.Counting.{order_ends}
use Rattle.trials_call.proofs.EachOrder.{fill_turn, order_part, all_filled, recorded_ends}
use Rattle.trials_call.proofs.trying.try_each.Goals as goal

pub loop-k-init : goal.loop-k-init
loop-k-init c = (omega arith, refl, λ delay es rs ready. refl)

-- order k ends within the bytes, whose length fits
pub overflow_mul-from : goal.overflow_mul-from
overflow_mul-from c =
    let ends = order_ends c.args.shared.now.count c.args.orders.now c.requires.1 c.loop-k.k (omega (arith, c.loop-k-test.true, c.requires.2)) in
    let fits : length c.args.orders.now < 2 ^ 64 = search rules in
    omega (arith, ends, fits)

pub overflow_add-to : goal.overflow_add-to
overflow_add-to c =
    let ends = order_ends c.args.shared.now.count c.args.orders.now c.requires.1 c.loop-k.k (omega (arith, c.loop-k-test.true, c.requires.2)) in
    let fits : length c.args.orders.now < 2 ^ 64 = search rules in
    omega (arith, ends, fits)

pub slice_bounds-trial-end : goal.slice_bounds-trial-end
slice_bounds-trial-end c = order_ends c.args.shared.now.count c.args.orders.now c.requires.1 c.loop-k.k (omega (arith, c.loop-k-test.true, c.requires.2))

pub bounds-out-k : goal.bounds-out-k
bounds-out-k c = omega (arith, c.loop-k-test.true, c.loop-k.invariant.1, c.requires.3)

pub loop-k-preserved : goal.loop-k-preserved
loop-k-preserved c = (
  omega (arith, c.loop-k-test.true),
  simp length-set c.loop-k.invariant.1,
  λ delay es rs ready. fill_turn (λ j. order_byte delay es (tables_of rs) (order_at c.args.shared.now.count c.args.orders.now j)) c.args.out.now c.loop-k.out c.loop-k.k c.trial-byte.result (omega (arith, c.loop-k-test.true, c.requires.3))
      (c.loop-k.invariant.2 delay es rs ready) (c.trial-byte.ensures delay es rs ready ∙ ap (order_byte delay es (tables_of rs)) (order_part c.args.shared.now.count c.args.orders.now c.loop-k.k)),
)

pub returns : goal.returns
returns c =
    λ delay es rs f.
    all_filled delay es (tables_of rs) c.args.orders.now c.args.out.now f.count c.requires.2 c.loop-k.k (omega (arith, c.loop-k-test.false, c.loop-k.invariant.0))
    (c.loop-k.invariant.2 delay es rs (recorded_ends delay es rs _ _ _ _ _ f (c.requires.0 ∙ ap (from 0) f.count) (c.run-end.ensures es f.slots f.slots_of f.inside)))
