-- Orders end to end: a length is even where it is a multiple of the number of events (`even_iff`); then the orders, each of that many
-- bytes, joined are the bytes again (`orders_joined`), and there is a byte for each (`bytes_length`, `byte_at`). Assumes nothing.
use mathlib.Core.Path.{◌≡◌, refl, sym, ap, ◌∙◌}
use mathlib.Core.Bool.{false, not}
use mathlib.Core.Logic.{◌↔◌}
use mathlib.Core.List.{List, [], ◌∷◌, ◌++◌}
use Prim.Native.Nat.{ℕ, zero, suc, ◌+◌, ◌*◌, ◌/◌, ◌≤◌, ◌<◌}
use native.Mathlib.Nat.{mul-zero, zero-mul, suc-mul, mul-div_cancel, div-mul-le_self, mul-le-mul_right}
use native.Mathlib.Decide.{ℕ_discrete}
use native.Mathlib.Omega.{arith}
use lib.Dec.{eqb}
use lib.ListN.{length, take, drop, get_or, length-drop, length-append, get_or-append}
use lib.Seq.{take-add, take_all, length-take-le, get_or-append_seam}
use borrow.Author.Tests.{eqb-true, eqb-false, eq-eqb, not-false}
use Rattle.basics.specs.Searches.{gather}
use Rattle.basics.proofs.Booleans.{split}
use Rattle.flow_table.specs.Switches.{Tables}
use Rattle.order_trials.specs.Types.{Event}
use Rattle.order_trials.specs.Trials.{order_count, uneven, order_at, order_byte, order_bytes}

-- a whole number of orders
pub count_even : (n len : ℕ) → uneven n len ≡ false → order_count n len * n ≡ len
unfolding uneven
count_even n len h = eqb-true (order_count n len * n) len (not-false _ h)

-- the orders are no longer than the bytes
pub count_most : (n len : ℕ) → order_count n len * n ≤ len
unfolding order_count
count_most n len = split (eqb n 0) (λ z. rw (z, zero-mul n) (omega arith)) (λ z. rw z (div-mul-le_self len n))

counted : (n len m : ℕ) → len ≡ m * n → order_count n len * n ≡ len
unfolding order_count
counted n len m e =
    split (eqb n 0)
    (λ z. let none = eqb-true n 0 z in rw (z, none) (sym (e ∙ ap (λ (x : ℕ). m * x) none ∙ mul-zero m)))
    (λ z. let some : 0 < n = omega (arith, eqb-false n 0 z) in rw z (ap (λ (x : ℕ). x / n * n) e ∙ ap (λ (x : ℕ). x * n) (mul-div_cancel m some) ∙ sym e))

-- a length is even exactly if it is a multiple of the number of events; of no events only 0 is one
pub even_iff : (n len : ℕ) → (uneven n len ≡ false) ↔ ((m : ℕ) × (len ≡ m * n))
unfolding uneven
even_iff n len = (λ h. (order_count n len, sym (count_even n len h)), λ (m, e). ap not (eq-eqb (order_count n len * n) len (counted n len m e)))

-- the first k orders are the first k * n bytes
first_orders : (n : ℕ) (os : List ℕ) (k : ℕ) → gather (order_at n os) k ≡ take (k * n) os
unfolding order_at
first_orders n os zero = rw (zero-mul n) refl
first_orders n os (suc k) =
    ap (λ l. l ++ take n (drop (k * n) os)) (first_orders n os k) ∙ sym (take-add (k * n) n os) ∙ ap (λ (m : ℕ). take m os) (sym (suc-mul k n))

module _ (n : ℕ) (os : List ℕ) (even : uneven n (length os) ≡ false) where
  -- the orders joined are the bytes
  pub orders_joined : gather (order_at n os) (order_count n (length os)) ≡ os
  orders_joined = first_orders n os (order_count n (length os)) ∙ take_all (order_count n (length os) * n) os (omega (arith, count_even n (length os) even))

  -- order k ends where the next begins, within the bytes
  pub order_ends : (k : ℕ) → k < order_count n (length os) → k * n + n ≤ length os
  order_ends k h = omega (arith, mul-le-mul_right {m = suc k} {n = order_count n (length os)} n (omega arith), suc-mul k n, count_even n (length os) even)

  -- each has n bytes
  pub order_size : (k : ℕ) → k < order_count n (length os) → length (order_at n os k) ≡ n
  unfolding order_at
  order_size k h = length-take-le n (drop (k * n) os) (omega (arith, length-drop (k * n) os, order_ends k h))

-- ---- the bytes
module _ (f : ℕ → ℕ) where
  pub singles_length : (m : ℕ) → length (gather (λ k. f k ∷ []) m) ≡ m
  singles_length zero = refl
  singles_length (suc m) = length-append (gather (λ k. f k ∷ []) m) (f m ∷ []) ∙ omega (arith, singles_length m)

  pub singles_at : (m k : ℕ) → k < m → get_or (gather (λ k. f k ∷ []) m) k 0 ≡ f k
  singles_at zero k h = absurd (omega arith)
  singles_at (suc m) k h =
      elim (ℕ_discrete k m) [
        | yes e ↦ ap (λ (j : ℕ). get_or (gather (λ k. f k ∷ []) m ++ (f m ∷ [])) j 0) (e ∙ sym (singles_length m)) ∙ get_or-append_seam (gather (λ k. f k ∷ []) m) (f m) [] 0 ∙ ap f (sym e)
        | no ne ↦ get_or-append (gather (λ k. f k ∷ []) m) (f m ∷ []) 0 k (omega (arith, singles_length m, ne)) ∙ singles_at m k (omega (arith, ne))
      ]

module _ (delay : ℕ) (es : List Event) (start : Tables) (os : List ℕ) where
  pub bytes_length : length (order_bytes delay es start os) ≡ order_count (length es) (length os)
  unfolding order_bytes
  bytes_length = singles_length _ _

  pub byte_at : (k : ℕ) → k < order_count (length es) (length os) → get_or (order_bytes delay es start os) k 0 ≡ order_byte delay es start (order_at (length es) os k)
  unfolding order_bytes
  byte_at k h = singles_at _ _ k h
