-- The check of an order tells the first of the refusals 21, 22 that applies (`order_refused_iff`). Assumes nothing.
use mathlib.Core.Path.{◌≡◌, refl, sym, ◌∙◌}
use mathlib.Core.Bool.{Bool, true, false, not, true≢false}
use mathlib.Core.Logic.{◌↔◌, inl, inr, ⊎_elim}
use mathlib.Core.List.{List, [], ◌∷◌}
use Rattle.std.specs.Prelude.{Some, Err}
use Prim.Native.Nat.{ℕ, zero, suc, ◌<◌}
use native.Mathlib.Omega.{arith}
use lib.Dec.{eqb}
use lib.ListN.{length}
use borrow.Author.Tests.{eqb-false, not-true}
use Rattle.basics.specs.Searches.{has, all_below, Lowest}
use Rattle.basics.proofs.Booleans.{split, and_cases}
use Rattle.happens_before.specs.Causality.{before}
use Rattle.trace_events.specs.Clocks.{InLineOrder}
use Rattle.happens_before.proofs.Direct.{before_direct}
use Rattle.refusals.specs.Checks.{refuse_if, refuse_at}
use Rattle.order_check.specs.Schedule.{complete, first_early, check_order, EarlyAt}
use Rattle.order_check.proofs.Flags.{complete_iff}
use Rattle.order_check.proofs.Accepted.{early_iff}
use Rattle.refusals_order.specs.Types.{Refusal, Event}
use Rattle.refusals_order.specs.Causes.{FirstOf}
use Rattle.refusals_order.specs.Orders.{Incomplete, PutEarly, incomplete_cause, early_put_cause, order_causes}
use Rattle.refusals_order.proofs.Causes.{Tells, then_tells, when_tells, found_tells}

-- ---- 21
-- a test that fails below n fails somewhere
missing : (p : ℕ → Bool) (n : ℕ) → all_below p n ≡ false → (i : ℕ) × (i < n) × (p i ≡ false)
missing p zero e = absurd (true≢false e)
missing p (suc n) e = and_cases (all_below p n) (p n) e (λ f. let (i, l, h) = missing p n f in (i, omega arith, h)) (λ f. (n, omega arith, f))

module _ (delay : ℕ) (es : List Event) (clocks : InLineOrder delay es) (o : List ℕ) where
  incomplete_iff : (not (complete (length es) o) ≡ true) ↔ Incomplete es o
  unfolding complete
  incomplete_iff = (
    λ e. and_cases (eqb (length o) (length es)) (all_below (λ i. has i o) (length es)) (not-true _ e)
        (λ f. inl (eqb-false (length o) (length es) f))
        (λ f. inr (missing (λ i. has i o) (length es) f)),
    λ w. split (complete (length es) o)
        (λ e. let order = (complete_iff (length es) o).0 e in
        absurd (⊎_elim (λ d. d order.size) (λ (i, l, h). true≢false (sym (order.full i l) ∙ h)) w))
        (λ e. rw e refl),
  )

  -- ---- 22
  put_early_iff : (p : ℕ) → EarlyAt (before delay es) o p ↔ PutEarly delay es o p
  put_early_iff p = (
    λ w. record { later = w.later; after = w.after; within = w.within; chain = (before_direct delay es clocks _ _).0 w.precedes },
    λ w. record { later = w.later; after = w.after; within = w.within; precedes = (before_direct delay es clocks _ _).1 w.chain },
  )

  lowest_early_iff : (p : ℕ) → (first_early delay es o ≡ Some p) ↔ Lowest (PutEarly delay es o) (length o) p
  lowest_early_iff p = (
    λ e. let l = (early_iff delay es o p).0 e in
        let a = l.early.after in
        let b = l.early.within in record {
          inside = omega arith;
          here = (put_early_iff p).0 l.early;
          none_lower = λ k h w. l.lowest k h ((put_early_iff k).1 w);
        },
    λ l. (early_iff delay es o p).1 (record { early = (put_early_iff p).1 l.here; lowest = λ k h w. l.none_lower k h ((put_early_iff k).0 w) }),
  )

  pub order_tells : Tells (check_order delay es o) (order_causes delay o es)
  unfolding check_order order_causes
  order_tells =
      then_tells (refuse_if (not (complete (length es) o)) Refusal.OrderIncomplete) (λ _. refuse_at (first_early delay es o) Refusal.EventTooEarly) (incomplete_cause o es ∷ []) (early_put_cause delay o es ∷ [])
      (when_tells (not (complete (length es) o)) (Incomplete es o) incomplete_iff Refusal.OrderIncomplete)
      (λ _ e. found_tells (first_early delay es o) (Lowest (PutEarly delay es o) (length o)) lowest_early_iff Refusal.EventTooEarly)

-- THE refusal of an order: the first of 21, 22 that applies
pub order_refused_iff : (delay : ℕ) (es : List Event) → InLineOrder delay es → (o : List ℕ) (r : Refusal) → (check_order delay es o ≡ Err r) ↔ FirstOf (order_causes delay o es) r
order_refused_iff delay = order_tells delay
