-- What the refusals of an order mean: no position is early exactly if the order keeps happens-before (`early_none_iff`), the position
-- is the lowest (`early_iff`), an order is accepted exactly if none of its events is missing and it keeps happens-before
-- (`order_accepted_iff`), and the recorded order is accepted (`recorded_accepted`), where the time rule puts no later line before an
-- earlier one. Assumes nothing.
use mathlib.Core.Path.{◌≡◌, refl, sym, ap, ◌∙◌}
use mathlib.Core.Logic.{◌↔◌}
use mathlib.Core.Bool.{Bool, true, false, not, ◌&&◌, ◌||◌, cond, false≢true, true≢false, or-true}
use Rattle.std.specs.Prelude.{Option, None, Some, Ok}
use mathlib.Core.List.{List, [], ◌∷◌}
use Prim.Native.Nat.{ℕ, zero, suc, ◌+◌, ◌<◌, ◌≤◌}
use native.Mathlib.Decide.{dec_lt}
use native.Mathlib.Omega.{arith}
use lib.Dec.{eqb}
use lib.ListN.{length, get_or}
use borrow.Author.Tests.{eqb-true, eqb-false, eq-eqb}
use Rattle.basics.proofs.Booleans.{split, and_left, and_right, or_cases}
use Rattle.order_meaning.specs.Orders.{from, stands, IsOrderOf}
use Rattle.basics.specs.Searches.{has}
use Rattle.order_meaning.proofs.OrderLaws.{not_both}
use Rattle.trace_events.specs.Clocks.{InLineOrder}
use Rattle.happens_before.specs.Causality.{direct, Chain, before}
use Rattle.happens_before.proofs.Direct.{before_direct, direct_later}
use Rattle.refusals.specs.Checks.{◌▹◌, refuse_if, refuse_at}
use Rattle.order_check.specs.Types.{Event, Refusal}
use Rattle.order_check.specs.Schedule.{complete, any_before, early_from, first_early, check_order, EarlyAt, LowestEarly, KeepsOrder}
use Rattle.order_check.proofs.Flags.{complete_iff}
use Rattle.order_check.proofs.SearchLaws.{found_in, finds_in}

some_none : {A : Type 0} {x : A} → Some x ≡ None → ⊥
some_none p = let z : ◌≡◌ {A = ℕ} 0 1 = cc in omega arith

-- of two events that stand in an order, one stands first
one_first : (i j : ℕ) (o : List ℕ) → (i ≡ j → ⊥) → has i o ≡ true → has j o ≡ true → (stands i j o || stands j i o) ≡ true
one_first i j [] d h k = absurd (false≢true h)
one_first i j (x ∷ o) d h k = go (eqb i x) refl (eqb j x) refl h k (one_first i j o d)
  where
    go : (b : Bool) → eqb i x ≡ b → (c : Bool) → eqb j x ≡ c → (b || has i o) ≡ true → (c || has j o) ≡ true
        → (has i o ≡ true → has j o ≡ true → (stands i j o || stands j i o) ≡ true)
        → (((b && has j o) || stands i j o) || ((c && has i o) || stands j i o)) ≡ true
    go true e true f h k ih = absurd (d (eqb-true i x e ∙ sym (eqb-true j x f)))
    go true e false f h k ih = rw k refl
    go false e true f h k ih = rw (h, or-true (stands i j o)) refl
    go false e false f h k ih = ih h k

module _ (hb : ℕ → ℕ → Bool) where
  none_before : (j : ℕ) (o : List ℕ) → ((i : ℕ) → has i o ≡ true → hb i j ≡ false) → any_before hb j o ≡ false
  none_before j o h = split (any_before hb j o) (λ e. let (i, k, b) = found_in hb j o e in absurd (true≢false (sym b ∙ h i k))) (λ e. e)

  before_none : (i j : ℕ) (o : List ℕ) → any_before hb j o ≡ false → has i o ≡ true → hb i j ≡ false
  before_none i j o h k = split (hb i j) (λ b. absurd (true≢false (sym (finds_in hb j o i k b) ∙ h))) (λ b. b)

  -- no position is early: no event stands before one that comes before it
  kept_none : (k : ℕ) (o : List ℕ) → ((i j : ℕ) → stands j i o ≡ true → hb i j ≡ false) → early_from hb k o ≡ None
  unfolding early_from
  kept_none k [] h = refl
  kept_none k (j ∷ o) h =
      rw (none_before j o (λ i e. h i j (rw (eq-eqb j j refl, e) refl)))
      (kept_none (k + 1) o (λ i m e. h i m (rw e (or-true (eqb m j && has i o)))))

  -- the two ways that a position comes out
  none_parts : (b : Bool) (k : ℕ) (r : Option ℕ) → cond b (Some k) r ≡ None → (b ≡ false) × (r ≡ None)
  none_parts true k r e = absurd (some_none e)
  none_parts false k r e = (refl, e)

  none_kept_lem : (k : ℕ) (o : List ℕ) → early_from hb k o ≡ None → (i j : ℕ) → stands j i o ≡ true → hb i j ≡ false
  unfolding early_from
  none_kept_lem k [] h i j e = absurd (false≢true e)
  none_kept_lem k (x ∷ o) h i j e =
      let p = none_parts (any_before hb x o) k (early_from hb (k + 1) o) h in
      or_cases (eqb j x && has i o) (stands j i o) e
      (λ u. rw (eqb-true j x (and_left (eqb j x) (has i o) u)) (before_none i x o p.0 (and_right (eqb j x) (has i o) u)))
      (λ u. none_kept_lem (k + 1) o p.1 i j u)

  -- ---- the lowest position
  any_found : (j : ℕ) (o : List ℕ) → any_before hb j o ≡ true → (q : ℕ) × (q < length o) × (hb (get_or o q 0) j ≡ true)
  unfolding any_before
  any_found j [] h = absurd (false≢true h)
  any_found j (i ∷ o) h =
      or_cases (hb i j) (any_before hb j o) h
      (λ e. (0, omega arith, e))
      (λ e. let r = any_found j o e in (suc r.0, omega (arith, r.1), r.2))

  any_at : (j : ℕ) (o : List ℕ) (q : ℕ) → q < length o → hb (get_or o q 0) j ≡ true → any_before hb j o ≡ true
  unfolding any_before
  any_at j [] q l h = absurd (omega arith)
  any_at j (i ∷ o) zero l h = rw h refl
  any_at j (i ∷ o) (suc q) l h = rw (any_at j o q (omega arith) h) (or-true (hb i j))

  here : (j : ℕ) (o : List ℕ) → any_before hb j o ≡ true → EarlyAt hb (j ∷ o) 0
  here j o h = let r = any_found j o h in record { later = suc r.0; after = omega arith; within = omega (arith, r.1); precedes = r.2 }

  shifted : (j : ℕ) (o : List ℕ) (m : ℕ) → EarlyAt hb o m → EarlyAt hb (j ∷ o) (suc m)
  shifted j o m r = let a = r.after in let w = r.within in record { later = suc r.later; after = omega arith; within = omega arith; precedes = r.precedes }

  -- what is early in an order with j in front: j, or what is early in the rest
  from_front : (j : ℕ) (o : List ℕ) (later m : ℕ) → m < later → later < suc (length o) → hb (get_or (j ∷ o) later 0) (get_or (j ∷ o) m 0) ≡ true
      → any_before hb j o ≡ false → (q : ℕ) × (m ≡ suc q) × EarlyAt hb o q
  from_front j o zero m l w e f = absurd (omega arith)
  from_front j o (suc n) zero l w e f = absurd (true≢false (sym (any_at j o n (omega arith) e) ∙ f))
  from_front j o (suc n) (suc m) l w e f = (m, refl, record { later = n; after = omega arith; within = omega arith; precedes = e })

  none_early : (k : ℕ) (o : List ℕ) → early_from hb k o ≡ None → (m : ℕ) → EarlyAt hb o m → ⊥
  unfolding early_from
  none_early k [] h m r = let w = r.within in omega arith
  none_early k (j ∷ o) h m r =
      let p = none_parts (any_before hb j o) k (early_from hb (k + 1) o) h in
      let s = from_front j o r.later m r.after r.within r.precedes p.0 in
      none_early (k + 1) o p.1 s.0 s.2

  first_early_lem : (k : ℕ) (o : List ℕ) (p : ℕ) → early_from hb k o ≡ Some p → (d : ℕ) × (p ≡ k + d) × LowestEarly hb o d
  unfolding early_from
  first_early_lem k [] p h = absurd (some_none (sym h))
  first_early_lem k (j ∷ o) p h = go (any_before hb j o) refl h (first_early_lem (k + 1) o p)
    where
      go : (b : Bool) → any_before hb j o ≡ b → cond b (Some k) (early_from hb (k + 1) o) ≡ Some p → (early_from hb (k + 1) o ≡ Some p → (d : ℕ) × (p ≡ k + 1 + d) × LowestEarly hb o d)
          → (d : ℕ) × (p ≡ k + d) × LowestEarly hb (j ∷ o) d
      go true f e ih = (0, (let q : k ≡ p = cc in omega arith), record { early = here j o f; lowest = λ m l r. omega arith })
      go false f e ih = let s = ih e in (
        suc s.0,
        omega (arith, s.1),
        record {
          early = shifted j o s.0 s.2.early;
          lowest = λ m l r. let t = from_front j o r.later m r.after r.within r.precedes f in s.2.lowest t.0 (omega (arith, t.1)) t.2;
        },
      )

-- the position is the lowest that holds an event put before one that happens before it
pub early_iff : (delay : ℕ) (es : List Event) (o : List ℕ) (p : ℕ) → (first_early delay es o ≡ Some p) ↔ LowestEarly (before delay es) o p
early_iff delay es o p = (is_lowest, λ r. go (first_early delay es o) refl r)
  where
    is_lowest : first_early delay es o ≡ Some p → LowestEarly (before delay es) o p
    is_lowest h = let s = first_early_lem (before delay es) 0 o p h in let e : p ≡ s.0 = omega (arith, s.1) in rw e s.2

    go : (x : Option ℕ) → first_early delay es o ≡ x → LowestEarly (before delay es) o p → first_early delay es o ≡ Some p
    go None e r = absurd (none_early (before delay es) 0 o e p r.early)
    go (Some q) e r =
        let s = first_early_lem (before delay es) 0 o q e in
        let h : q ≡ s.0 = omega (arith, s.1) in
        e ∙ ap Some (h ∙ same s.0 s.2 r)
      where
        same : (d : ℕ) → LowestEarly (before delay es) o d → LowestEarly (before delay es) o p → d ≡ p
        same d a b = elim (dec_lt d p) [ yes l ↦ absurd (b.lowest d l a.early) | no m ↦ elim (dec_lt p d) [ yes l ↦ absurd (a.lowest p l b.early) | no n ↦ omega arith ] ]

module _ (delay : ℕ) (es : List Event) (clocks : InLineOrder delay es) (o : List ℕ) (order : IsOrderOf (length es) o) where
  -- no position is early exactly if each event stands after all that happen before it
  early_none_iff : (first_early delay es o ≡ None) ↔ KeepsOrder delay es o
  early_none_iff = (λ h i j c. keeps h i j c, λ k. kept_none (before delay es) 0 o (λ i j e. clear k i j e))
    where
      keeps : first_early delay es o ≡ None → (i j : ℕ) → Chain (direct delay es) i j → stands i j o ≡ true
      keeps h i j c =
          let l = direct_later delay es clocks c in
          or_cases (stands i j o) (stands j i o) (one_first i j o (omega arith) (order.full i (omega arith)) (order.full j l.1))
          (λ e. e)
          (λ e. absurd (false≢true (sym (none_kept_lem (before delay es) 0 o h i j e) ∙ (before_direct delay es clocks i j).1 c)))

      clear : KeepsOrder delay es o → (i j : ℕ) → stands j i o ≡ true → before delay es i j ≡ false
      clear k i j e =
          split (before delay es i j)
          (λ b. let c = (before_direct delay es clocks i j).0 b in let l = direct_later delay es clocks c in absurd (not_both order i j (omega arith) (k i j c) e))
          (λ b. b)

passed_parts : (b : Bool) (x : Option ℕ) → (refuse_if (not b) Refusal.OrderIncomplete ▹ λ _. refuse_at x Refusal.EventTooEarly) ≡ Ok tt → (b ≡ true) × (x ≡ None)
passed_parts true None e = (refl, refl)
passed_parts true (Some p) e = let z : ◌≡◌ {A = ℕ} 0 1 = cc in absurd (omega arith)
passed_parts false x e = let z : ◌≡◌ {A = ℕ} 0 1 = cc in absurd (omega arith)

-- an accepted order is one of the events
pub accepted_complete : (delay : ℕ) (es : List Event) (o : List ℕ) → check_order delay es o ≡ Ok tt → IsOrderOf (length es) o
unfolding check_order
accepted_complete delay es o h = (complete_iff (length es) o).0 (passed_parts (complete (length es) o) (first_early delay es o) h).0

-- where the time rule puts no later line before an earlier one: accepted exactly if it is one of the events and keeps happens-before
pub order_accepted_iff : (delay : ℕ) (es : List Event) → InLineOrder delay es → (o : List ℕ) → (check_order delay es o ≡ Ok tt) ↔ (IsOrderOf (length es) o × KeepsOrder delay es o)
unfolding check_order
order_accepted_iff delay es clocks o = (
  λ h. let order = accepted_complete delay es o h in
      (order, (early_none_iff delay es clocks o order).0 (passed_parts (complete (length es) o) (first_early delay es o) h).1),
  λ p. rw ((complete_iff (length es) o).1 p.0, (early_none_iff delay es clocks o p.0).1 p.1) refl,
)

-- ---- the recorded order
has_from : (i b n : ℕ) → b ≤ i → i < b + n → has i (from b n) ≡ true
has_from i b zero l m = absurd (omega arith)
has_from i b (suc n) l m = split (eqb i b) (λ e. rw e refl) (λ e. let d = eqb-false i b e in rw e (has_from i (suc b) n (omega arith) (omega arith)))

pub stands_from : (i j b n : ℕ) → b ≤ i → i < j → j < b + n → stands i j (from b n) ≡ true
stands_from i j b zero l m k = absurd (omega arith)
stands_from i j b (suc n) l m k =
    split (eqb i b)
    (λ e. let q = eqb-true i b e in rw (e, has_from j (suc b) n (omega arith) (omega arith)) refl)
    (λ e. let d = eqb-false i b e in rw (e, stands_from i j (suc b) n (omega arith) m (omega arith)) refl)

length_from : (b n : ℕ) → length (from b n) ≡ n
length_from b zero = refl
length_from b (suc n) = ap suc (length_from (suc b) n)

pub recorded_order : (n : ℕ) → IsOrderOf n (from 0 n)
recorded_order n = record { size = length_from 0 n; full = λ i l. has_from i 0 n (omega arith) (omega arith) }

pub recorded_keeps : (delay : ℕ) (es : List Event) → InLineOrder delay es → KeepsOrder delay es (from 0 (length es))
recorded_keeps delay es clocks i j c = let l = direct_later delay es clocks c in stands_from i j 0 (length es) (omega arith) l.0 (omega arith)

-- the recorded order is never refused
pub recorded_accepted : (delay : ℕ) (es : List Event) → InLineOrder delay es → check_order delay es (from 0 (length es)) ≡ Ok tt
recorded_accepted delay es clocks = (order_accepted_iff delay es clocks (from 0 (length es))).1 (recorded_order (length es), recorded_keeps delay es clocks)
