-- The steps of the search for the first place whose event must be preceded by one that is not placed yet. Assumes nothing.
use mathlib.Core.Path.{◌≡◌, refl, sym, ap, ◌∙◌}
use mathlib.Core.Bool.{Bool, true, false, not, ◌&&◌, ◌||◌, false≢true, or-true}
use Rattle.std.specs.Prelude.{None, Some}
use mathlib.Core.List.{List, [], ◌∷◌}
use Prim.Native.Nat.{ℕ, zero, suc, ◌+◌, ◌/◌, ◌≤◌, ◌<◌}
use native.Mathlib.Numerals.{add-one}
use native.Mathlib.Decide.{dec_lt}
use native.Mathlib.Omega.{arith}
use lib.Dec.{eqb}
use lib.ListN.{length, drop, get_or, drop_of_length-le}
use borrow.Author.Tests.{eqb-true, eq-eqb, not-false}
use Rattle.basics.specs.Searches.{has}
use Rattle.basics.proofs.Booleans.{split, or_cases}
use Rattle.order_meaning.specs.Orders.{stands, IsOrderOf}
use Rattle.order_meaning.proofs.OrderLaws.{not_twice}
use Rattle.bit_sets.specs.Inner.{member}
use Rattle.happens_before.specs.Inner.{lacks_bit, no_members, bit}
use Rattle.bit_sets.proofs.Members.{member_none}
use Rattle.happens_before.proofs.Lacking.{lacks_none, lacks_found}
use Rattle.order_check.specs.Schedule.{any_before, early_from}
use Rattle.order_check.proofs.Flags.{next}

-- two tests that agree
any_like : (f g : ℕ → ℕ → Bool) → ((i j : ℕ) → f i j ≡ g i j) → (j : ℕ) (o : List ℕ) → any_before f j o ≡ any_before g j o
unfolding any_before
any_like f g h j [] = refl
any_like f g h j (i ∷ o) = rw (h i j, any_like f g h j o) refl

pub early_like : (f g : ℕ → ℕ → Bool) → ((i j : ℕ) → f i j ≡ g i j) → (k : ℕ) (o : List ℕ) → early_from f k o ≡ early_from g k o
unfolding early_from
early_like f g h k [] = refl
early_like f g h k (j ∷ o) = rw (any_like f g h j o, early_like f g h (k + 1) o) refl

-- ---- the events that must precede
module _ (hb : ℕ → ℕ → Bool) (j : ℕ) where
  pub found_in : (l : List ℕ) → any_before hb j l ≡ true → (i : ℕ) × (has i l ≡ true) × (hb i j ≡ true)
  unfolding any_before
  found_in [] e = absurd (false≢true e)
  found_in (x ∷ l) e =
      or_cases (hb x j) (any_before hb j l) e
      (λ u. (x, rw (eq-eqb x x refl) refl, u))
      (λ u. let (i, h, b) = found_in l u in (i, rw h (or-true (eqb i x)), b))

  pub finds_in : (l : List ℕ) (i : ℕ) → has i l ≡ true → hb i j ≡ true → any_before hb j l ≡ true
  unfolding any_before
  finds_in [] i h b = absurd (false≢true h)
  finds_in (x ∷ l) i h b =
      or_cases (eqb i x) (has i l) h
      (λ u. rw (sym (ap (λ y. hb y j) (eqb-true i x u)) ∙ b) refl)
      (λ u. rw (finds_in l i u b) (or-true (hb x j)))

-- ---- what is placed
again_stands : (o : List ℕ) (p : ℕ) → p < length o → has (get_or o p 0) (drop (suc p) o) ≡ true → stands (get_or o p 0) (get_or o p 0) o ≡ true
again_stands [] p l h = absurd (omega arith)
again_stands (x ∷ o) zero l h = rw (eq-eqb x x refl, h) refl
again_stands (x ∷ o) (suc p) l h = rw (again_stands o p (omega arith) h) (or-true (eqb (get_or o p 0) x && has (get_or o p 0) o))

-- of the events of an order those are placed that do not stand at place p or later
pub record PlacedBefore (o : List ℕ) (p : ℕ) (placed : List ℕ) : Type 0 where
  flag : (i : ℕ) → i < length o → member placed i ≡ not (has i (drop p o))

module _ (o : List ℕ) (order : IsOrderOf (length o) o) where
  pub none_placed : PlacedBefore o 0 no_members
  none_placed = record { flag = λ i l. member_none 4 i ∙ rw (order.full i l) refl }

  pub one_placed : (placed more : List ℕ) (p : ℕ) → p < length o → ((k : ℕ) → member more k ≡ (eqb k (get_or o p 0) || member placed k)) → PlacedBefore o p placed → PlacedBefore o (p + 1) more
  one_placed placed more p h with before = record { flag = flag }
    where
      once : has (get_or o p 0) (drop (p + 1) o) ≡ false
      once = split (has (get_or o p 0) (drop (p + 1) o))
          (λ e. absurd (false≢true (sym (not_twice order (get_or o p 0)) ∙ again_stands o p h (rw add-one at e))))
          (λ e. e)

      flag : (i : ℕ) → i < length o → member more i ≡ not (has i (drop (p + 1) o))
      flag i l =
          split (eqb i (get_or o p 0))
          (λ e. with i ∙ rw (e, eqb-true i (get_or o p 0) e, once) refl)
          (λ e. with i ∙ rw e (before.flag i l ∙ rw (next o p h, e) refl))

-- ---- the events that must precede, by words of sets: those of the first w words are placed
unfoldable pub HeldBelow : List ℕ → List ℕ → ℕ → Type 0
HeldBelow earlier placed w = (i : ℕ) → i / 64 < w → member earlier i ≡ true → member placed i ≡ true

module _ (earlier placed : List ℕ) where
  pub none_yet : HeldBelow earlier placed 0
  unfolding HeldBelow
  none_yet i l h = absurd (omega arith)

  pub word_passed : (w : ℕ) → lacks_bit (get_or placed w 0) (get_or earlier w 0) ≡ false → HeldBelow earlier placed w → HeldBelow earlier placed (w + 1)
  unfolding HeldBelow
  word_passed w e held i l h = elim (dec_lt (i / 64) w) [ yes m ↦ held i m h | no m ↦ lacks_none placed earlier w e i (omega arith) h ]

module _ (o : List ℕ) (rows : List (List ℕ)) (inside : (i j : ℕ) → bit rows i j ≡ true → i < length o) (j p : ℕ) (placed : List ℕ) (before : PlacedBefore o p placed) where
  pub word_found : (w : ℕ) → lacks_bit (get_or placed w 0) (get_or (get_or rows j []) w 0) ≡ true → any_before (bit rows) j (drop p o) ≡ true
  unfolding bit
  word_found w e =
      let (i, q, h, f) = lacks_found placed (get_or rows j []) w e in
      finds_in (bit rows) j (drop p o) i (not-false (has i (drop p o)) (sym (before.flag i (inside i j h)) ∙ f)) h

  pub none_missing : length o ≤ 256 → HeldBelow (get_or rows j []) placed 4 → any_before (bit rows) j (drop p o) ≡ false
  unfolding bit HeldBelow
  none_missing small held = split (any_before (bit rows) j (drop p o))
      (λ e. let (i, h, b) = found_in (bit rows) j (drop p o) e in
      let l = inside i j b in
      absurd (false≢true (sym (before.flag i l ∙ rw h refl) ∙ held i (omega arith) b)))
      (λ e. e)

-- ---- the places
module _ (hb : ℕ → ℕ → Bool) (order : List ℕ) (p : ℕ) where
  pub early_here : p < length order → any_before hb (get_or order p 0) (drop (p + 1) order) ≡ true → early_from hb p (drop p order) ≡ Some p
  unfolding early_from
  early_here h e = ap (early_from hb p) (next order p h) ∙ rw e

  pub in_time_lem : p < length order → any_before hb (get_or order p 0) (drop (p + 1) order) ≡ false
      → early_from hb p (drop p order) ≡ early_from hb (p + 1) (drop (p + 1) order)
  unfolding early_from
  in_time_lem h e = ap (early_from hb p) (next order p h) ∙ rw e

  pub no_more : length order ≤ p → early_from hb p (drop p order) ≡ None
  unfolding early_from
  no_more h = ap (early_from hb p) (drop_of_length-le order h)
