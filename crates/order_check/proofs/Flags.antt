-- Flags for the events that stand in an order, and whether all of the first n are set. Assumes nothing.
use mathlib.Core.Path.{◌≡◌, refl}
use mathlib.Core.Logic.{◌↔◌}
use mathlib.Core.Bool.{Bool, true, false, ◌||◌, or-true}
use mathlib.Core.List.{List, ◌∷◌}
use Prim.Native.Nat.{ℕ, ◌+◌, ◌<◌}
use native.Mathlib.Numerals.{add-one}
use lib.Dec.{eqb}
use lib.ListN.{length, get_or, set, drop}
use lib.Seq.{drop-cons, get_or-set_same, get_or-set_other}
use borrow.Author.Tests.{eqb-true, eqb-false, eq-eqb}
use Rattle.basics.proofs.Searches.{all_at, all_of}
use Rattle.basics.proofs.Booleans.{split, and_left, and_right, and_intro}
use Rattle.order_meaning.specs.Orders.{IsOrderOf}
use Rattle.basics.specs.Searches.{has, all_below}
use Rattle.order_check.specs.Schedule.{complete}

-- the number at a position, and those after it
pub next : (o : List ℕ) (p : ℕ) → p < length o → drop p o ≡ get_or o p 0 ∷ drop (p + 1) o
next o p h = rw (add-one, drop-cons o p 0)

-- a flag more: what is set, or stands in the rest, is what was before
pub flagged : (flags : List Bool) (o : List ℕ) (p i : ℕ) → p < length o → i < length flags
    → (get_or (set flags (get_or o p 0) true) i false || has i (drop (p + 1) o)) ≡ (get_or flags i false || has i (drop p o))
flagged flags o p i h l =
    split (eqb i (get_or o p 0))
    (λ e. rw (next o p h, e, or-true (get_or flags i false)) (same (eqb-true i (get_or o p 0) e)))
    (λ e. rw (next o p h, e, get_or-set_other flags (get_or o p 0) i true false (eqb-false i (get_or o p 0) e)) refl)
  where
    same : i ≡ get_or o p 0 → (get_or (set flags (get_or o p 0) true) i false || has i (drop (p + 1) o)) ≡ true
    same q = rw (← q, get_or-set_same flags i true false l) refl

-- the test for 21 is exact
pub complete_iff : (n : ℕ) (o : List ℕ) → (complete n o ≡ true) ↔ IsOrderOf n o
unfolding complete
complete_iff n o = (
  λ h. record {
    size = eqb-true (length o) n (and_left (eqb (length o) n) (all_below (λ i. has i o) n) h);
    full = λ i l. all_at (λ k. has k o) n i l (and_right (eqb (length o) n) (all_below (λ i. has i o) n) h);
  },
  λ p. and_intro (eq-eqb (length o) n p.size) (all_of (λ i. has i o) n p.full),
)
