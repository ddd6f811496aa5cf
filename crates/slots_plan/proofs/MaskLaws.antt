-- The set of the slots that pass a test, slot by slot. Assumes nothing.
use mathlib.Core.Path.{◌≡◌, refl, sym, ap, ◌∙◌}
use mathlib.Core.Bool.{Bool, true, false, ◌&&◌, ◌||◌}
use mathlib.Core.List.{List, [], ◌∷◌}
use Prim.Native.Nat.{ℕ, zero, suc, ◌+◌, ◌≤◌, ◌<◌}
use native.Mathlib.Decide.{ℕ_discrete, dec_lt}
use native.Mathlib.Nat.{le_refl}
use native.Mathlib.Omega.{arith}
use lib.Dec.{eqb, ltb}
use lib.ListN.{length, take, get_or}
use lib.Seq.{length-take-le, get_or-take}
use borrow.Author.Tests.{lt-ltb, le-ltb, eq-eqb, ne_eqb}
use Rattle.basics.proofs.Booleans.{and_false_right, and-true}
use Rattle.bit_sets.specs.Inner.{member}
use Rattle.rows.specs.declared.filter.Filter.{Filter}
use Rattle.rows.specs.Rows.{on_switch, passes}
use Rattle.rows.specs.Inner.{first_for}
use Rattle.slots.specs.Inner.{mark_at, Marks}
use Rattle.slots_plan.specs.Types.{Row}

module _ (p : Row → Bool) where
  pub mark_at_lem : (l : List Row) (i : ℕ) (d : Row) → i < length l → mark_at p l i ≡ p (get_or l i d)
  mark_at_lem [] i d h = absurd (omega arith)
  mark_at_lem (x ∷ xs) zero d h = refl
  mark_at_lem (x ∷ xs) (suc i) d h = mark_at_lem xs i d (omega arith)

  mark_past : (l : List Row) (i : ℕ) → length l ≤ i → mark_at p l i ≡ false
  mark_past [] i h = refl
  mark_past (x ∷ xs) zero h = absurd (omega arith)
  mark_past (x ∷ xs) (suc i) h = mark_past xs i (omega arith)

-- no slot passes the empty filter
mark_none : (w : ℕ) (l : List Row) (i : ℕ) → mark_at (on_switch w (passes Filter.Nothing)) l i ≡ false
unfolding on_switch
mark_none w [] i = refl
mark_none w (x ∷ xs) zero = and_false_right (eqb w x.switch) refl
mark_none w (x ∷ xs) (suc i) = mark_none w xs i

-- of the first n slots those below i are asked, and the set has those that pass
pub record Marking (w : ℕ) (f : Filter) (l : List Row) (n i : ℕ) (held : List ℕ) : Type 0 where
  pub within : i ≤ n
  marks : (k : ℕ) → member held k ≡ (ltb k i && mark_at (on_switch w (passes f)) (take n l) k)

-- where nothing passes the pass starts past the last
pub marking_start : (w : ℕ) (f : Filter) (l : List Row) (n i : ℕ) (held : List ℕ) → i ≡ first_for f n → ((k : ℕ) → member held k ≡ false) → Marking w f l n i held
marking_start w f l n i held e none = rw e (go f)
  where
    from_first : (g : Filter) → Marking w g l n 0 held
    from_first g = record { within = omega arith; marks = λ k. none k ∙ rw (le-ltb k 0 (omega arith)) refl }

    go : (g : Filter) → Marking w g l n (first_for g n) held
    go Filter.Nothing = record { within = le_refl n; marks = λ k. none k ∙ sym (and_false_right (ltb k n) (mark_none w (take n l) k)) }
    go (Filter.Same j) = from_first _
    go (Filter.Within m) = from_first _
    go (Filter.Clash j) = from_first _
    go (Filter.Fits q) = from_first _

-- one slot more
one_more : (b m : Bool) (k i : ℕ) → (k ≡ i → b ≡ m) → ((b && eqb k i) || (ltb k i && m)) ≡ (ltb k (i + 1) && m)
one_more b m k i e =
    elim (ℕ_discrete k i) [
      | yes u ↦ rw (eq-eqb k i u, le-ltb k i (omega arith), lt-ltb k (i + 1) (omega arith), and-true b, e u) (or_none m)
      | no ne ↦ rw (ne_eqb k i ne, and_false_right b {q = false} refl) (ap (λ c. c && m) (same ne))
    ]
  where
    or_none : (c : Bool) → (c || false) ≡ c
    or_none true = refl
    or_none false = refl

    same : (k ≡ i → ⊥) → ltb k i ≡ ltb k (i + 1)
    same ne = elim (dec_lt k i) [ yes l ↦ lt-ltb k i l ∙ sym (lt-ltb k (i + 1) (omega arith)) | no ge ↦ le-ltb k i (omega arith) ∙ sym (le-ltb k (i + 1) (omega arith)) ]

module _ (w : ℕ) (f : Filter) (l : List Row) (n i : ℕ) (held : List ℕ) (m : Marking w f l n i held) (fits : n ≤ length l) where
  pub marking_more : i < n → (d : Row) (b : Bool) → b ≡ on_switch w (passes f) (get_or l i d) → (more : List ℕ) → ((k : ℕ) → member more k ≡ ((b && eqb k i) || member held k))
      → Marking w f l n (i + 1) more
  marking_more h d b e more g = record {
    within = omega arith;
    marks = λ k. g k ∙ ap (λ c. (b && eqb k i) || c) (m.marks k) ∙ one_more b (mark_at p (take n l) k) k i (λ u. e ∙ here ∙ ap (mark_at p (take n l)) (sym u));
  }
    where
      p : Row → Bool
      p = on_switch w (passes f)

      here : p (get_or l i d) ≡ mark_at p (take n l) i
      here = ap p (sym (get_or-take n l i d h)) ∙ sym (mark_at_lem p (take n l) i d (omega (arith, length-take-le n l fits)))

  -- all slots are asked
  pub marking_end : n ≤ i → Marks (on_switch w (passes f)) (take n l) held
  marking_end h k =
      m.marks k
      ∙ elim (dec_lt k i) [
        | yes u ↦ rw (lt-ltb k i u) refl
        | no ge ↦ rw (le-ltb k i (omega arith), mark_past (on_switch w (passes f)) (take n l) k (omega (arith, length-take-le n l fits))) refl
      ]
