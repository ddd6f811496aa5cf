-- A barrier orders what stands on both sides of it on its switch: writes, `bar`, `msg` and `pout` (`barrier_between`). Assumes
-- nothing.
use Prim.Native.Nat.{ℕ, ◌<◌}
use native.Mathlib.Omega.{arith}
use mathlib.Core.Path.{◌≡◌, sym, subst}
use mathlib.Core.Logic.{inl, inr}
use mathlib.Core.Bool.{true}
use mathlib.Core.List.{List}
use lib.ListN.{length}
use Rattle.trace_events.specs.Events.{event_at}
use Rattle.trace_events.specs.Precedence.{Among, BarrierJoins}
use Rattle.happens_before.proofs.Direct.{direct_iff}
use Rattle.happens_before.specs.Types.{Operation, Event}
use Rattle.happens_before.specs.Causality.{direct, Chain, link, onward}

module _ (delay : ℕ) (es : List Event) where
  joined : (i j : ℕ) → i < j → j < length es → BarrierJoins (event_at es i).operation (event_at es j).operation → direct delay es i j ≡ true
  joined i j l m h = (direct_iff delay es i j).1 (record { first = omega (arith, l, m); second = m; by = inl (l, inr h) })

  module _ (w i j k : ℕ) (bar : (event_at es j).operation ≡ Operation.Barrier w) where
    is_among : Among w (event_at es j).operation
    is_among = subst (Among w) (sym bar) Among.bar

    pub barrier_between : i < j → j < k → k < length es → Among w (event_at es i).operation → Among w (event_at es k).operation → Chain (direct delay es) i k
    barrier_between l m n a b =
        onward
        (link (joined i j l (omega (arith, m, n)) (record { switch = w; first = a; second = is_among; one_is_bar = inr bar })))
        (joined j k m n (record { switch = w; first = is_among; second = b; one_is_bar = inl bar }))
