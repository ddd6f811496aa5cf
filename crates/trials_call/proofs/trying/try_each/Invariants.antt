-- The invariant: the bytes of the orders before k are written, the others are as they were.
use Prim.Native.Nat.{ℕ, ◌≤◌}
use mathlib.Core.Path.{◌≡◌}
use mathlib.Core.List.{List}
use lib.ListN.{length}
use Rattle.rows.specs.Rows.{tables_of}
use Rattle.order_trials.specs.Trials.{order_at, order_byte}
use Rattle.trials_call.specs.Types.{Event, Row}
use Rattle.trials_call.specs.Inner.{Ready}
use Rattle.trials_call.proofs.EachOrder.{filled}
use Rattle.trials_call.proofs.trying.try_each.Given as goal

abbrev pub invariant-loop-k : goal.invariant-loop-k
invariant-loop-k l =
    (l.k ≤ l.m) × (length l.out ≡ length l.initial.out)
    × ((delay : ℕ) (es : List Event) (rs : List Row) → Ready delay es rs l.shared.count l.shared.earlier l.shared.steps l.shared.start l.end → l.out ≡ filled (λ j. order_byte delay es (tables_of rs) (order_at l.n l.orders j)) l.initial.out l.k)
