-- Which switches and keys are there, also after a row is put in. Assumes nothing.
use mathlib.Core.Path.{◌≡◌, refl, ap, ◌∙◌}
use mathlib.Core.Bool.{Bool, true, false, ◌||◌, or-true}
use mathlib.Core.List.{List, [], ◌∷◌}
use Prim.Native.Nat.{ℕ, zero, suc, ◌<◌}
use native.Mathlib.Omega.{arith}
use lib.ListN.{length, get_or}
use Rattle.flow.specs.Entries.{is_equal}
use Rattle.rows.specs.Types.{Ordering}
use Rattle.rows.specs.declared.row.Row.{Row}
use Rattle.rows.specs.Rows.{row_order, same_slot, insert_row_by, insert_row, any_row}
use Rattle.rows.proofs.RowOrder.{row_same, row_self, like_slot_right}
use Rattle.rows_search.specs.Inner.{StandsAt}

or_absorb : (a b : Bool) → (a || b) ≡ (a || (a || b))
or_absorb true b = refl
or_absorb false b = refl

pub or_swap : (a b c : Bool) → (a || (b || c)) ≡ (b || (a || c))
or_swap true true c = refl
or_swap true false c = refl
or_swap false b c = refl

same_like : (y r x : Row) → row_order r x ≡ Ordering.Equal → same_slot y r ≡ same_slot y x
unfolding same_slot
same_like y r x q = ap is_equal (like_slot_right y r x (row_same r x q))

pub any_insert : (y r : Row) (rs : List Row) → any_row (same_slot y) (insert_row r rs) ≡ (same_slot y r || any_row (same_slot y) rs)
unfolding any_row insert_row
any_insert y r [] = refl
any_insert y r (x ∷ xs) = go (row_order r x) refl (any_insert y r xs)
  where
    go : (o : Ordering) → row_order r x ≡ o → any_row (same_slot y) (insert_row r xs) ≡ (same_slot y r || any_row (same_slot y) xs)
        → any_row (same_slot y) (insert_row_by o r x xs (insert_row r xs)) ≡ (same_slot y r || (same_slot y x || any_row (same_slot y) xs))
    go Ordering.Less q ih = refl
    go Ordering.Equal q ih = rw (← same_like y r x q) (or_absorb (same_slot y r) (any_row (same_slot y) xs))
    go Ordering.Greater q ih = rw ih (or_swap (same_slot y x) (same_slot y r) (any_row (same_slot y) xs))

same_self : (r : Row) → same_slot r r ≡ true
unfolding same_slot
same_self r = rw (row_self r) refl

-- a row put in is there, and what was there still is
pub any_inserted : (r : Row) (rs : List Row) → any_row (same_slot r) (insert_row r rs) ≡ true
any_inserted r rs = any_insert r r rs ∙ rw (same_self r) refl

pub any_still : (y r : Row) (rs : List Row) → any_row (same_slot y) rs ≡ true → any_row (same_slot y) (insert_row r rs) ≡ true
any_still y r rs e = any_insert y r rs ∙ rw e (or-true (same_slot y r))

-- a row at an index
pub any_at : (p : Row → Bool) (rs : List Row) (i : ℕ) (d : Row) → i < length rs → p (get_or rs i d) ≡ true → any_row p rs ≡ true
unfolding any_row
any_at p [] i d h e = absurd (omega arith)
any_at p (x ∷ xs) zero d h e = rw e refl
any_at p (x ∷ xs) (suc i) d h e = rw (any_at p xs i d (omega arith) e) (or-true (p x))

pub any_own : (rs : List Row) (i : ℕ) (d : Row) → i < length rs → any_row (same_slot (get_or rs i d)) rs ≡ true
any_own rs i d h = any_at (same_slot (get_or rs i d)) rs i d h (same_self (get_or rs i d))

pub any_stands : (r : Row) (rs : List Row) (i : ℕ) → StandsAt r rs i → any_row (same_slot r) rs ≡ true
any_stands r rs i s = any_at (same_slot r) rs i r s.within (s.same r)
