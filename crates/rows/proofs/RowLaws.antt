-- Rows in order: each change keeps the order, adds at most one row, and rows in order with the same members are equal. Assumes nothing.
use mathlib.Core.Path.{◌≡◌, refl, sym, ◌∙◌, ap, ap₂}
use mathlib.Core.Bool.{Bool, true, false, cond}
use mathlib.Core.Logic.{⊎_elim}
use mathlib.Core.List.Memᴰ
use mathlib.Core.List.{List, [], ◌∷◌, Memᴰ}
use Prim.Native.Nat.{ℕ, zero, suc, ◌≤◌, ◌<◌}
use native.Mathlib.Omega.{arith}
use lib.ListN.{length, get_or}
use Rattle.flow.proofs.Orders.{equal≢less}
use Rattle.rows.specs.Types.{Action, Ordering, Row}
use Rattle.rows.specs.Rows.{row_order, RowBefore, SortedRows, insert_row_by, insert_row, remove_rows, assign_row, assign_rows}
use Rattle.rows.proofs.RowOrder.{slot_of, row_same, row_chain, row_greater, row_self, like_slot}

-- a row before all of a list is before the one at each index
pub before_at : (r : Row) (xs : List Row) (m : ℕ) (d : Row) → RowBefore r xs → m < length xs → row_order r (get_or xs m d) ≡ Ordering.Less
before_at r [] m d b h = absurd (omega arith)
before_at r (x ∷ xs) zero d b h = b.0
before_at r (x ∷ xs) (suc m) d b h = before_at r xs m d b.1 (omega arith)

-- ---- order kept
pub row_before_chain : (r s : Row) (xs : List Row) → row_order r s ≡ Ordering.Less → RowBefore s xs → RowBefore r xs
row_before_chain r s [] h b = tt
row_before_chain r s (x ∷ xs) h b = (row_chain r s x h b.0, row_before_chain r s xs h b.1)

before_like : (r s : Row) (xs : List Row) → slot_of r ≡ slot_of s → RowBefore s xs → RowBefore r xs
before_like r s [] h b = tt
before_like r s (x ∷ xs) h b = (like_slot r s x h ∙ b.0, before_like r s xs h b.1)

before_insert : (s r : Row) (xs : List Row) → row_order s r ≡ Ordering.Less → RowBefore s xs → RowBefore s (insert_row r xs)
unfolding insert_row
before_insert s r [] h b = (h, tt)
before_insert s r (x ∷ xs) h b = go (row_order r x) (before_insert s r xs h b.1)
  where
    go : (o : Ordering) → RowBefore s (insert_row r xs) → RowBefore s (insert_row_by o r x xs (insert_row r xs))
    go Ordering.Less ih = (h, b)
    go Ordering.Equal ih = (h, b.1)
    go Ordering.Greater ih = (b.0, ih)

pub sorted_insert_row : (r : Row) (rs : List Row) → SortedRows rs → SortedRows (insert_row r rs)
unfolding insert_row
sorted_insert_row r [] s = (tt, tt)
sorted_insert_row r (x ∷ xs) s = go (row_order r x) refl (sorted_insert_row r xs s.1)
  where
    go : (o : Ordering) → row_order r x ≡ o → SortedRows (insert_row r xs) → SortedRows (insert_row_by o r x xs (insert_row r xs))
    go Ordering.Less q ih = ((q, row_before_chain r x xs q s.0), s)
    go Ordering.Equal q ih = (before_like r x xs (row_same r x q) s.0, s.1)
    go Ordering.Greater q ih = (before_insert x r xs (row_greater r x q) s.0, ih)

module _ (p : Row → Bool) where
  before_remove : (r : Row) (xs : List Row) → RowBefore r xs → RowBefore r (remove_rows p xs)
  unfolding remove_rows
  before_remove r [] b = tt
  before_remove r (x ∷ xs) b = go (p x) (before_remove r xs b.1)
    where
      go : (c : Bool) → RowBefore r (remove_rows p xs) → RowBefore r (cond c (remove_rows p xs) (x ∷ remove_rows p xs))
      go true ih = ih
      go false ih = (b.0, ih)

  pub sorted_remove : (rs : List Row) → SortedRows rs → SortedRows (remove_rows p rs)
  unfolding remove_rows
  sorted_remove [] s = tt
  sorted_remove (x ∷ xs) s = go (p x) (sorted_remove xs s.1)
    where
      go : (c : Bool) → SortedRows (remove_rows p xs) → SortedRows (cond c (remove_rows p xs) (x ∷ remove_rows p xs))
      go true ih = ih
      go false ih = (before_remove x xs s.0, ih)

  before_assign : (a : Action) (r s : Row) (xs : List Row) → slot_of r ≡ slot_of s → RowBefore s xs → RowBefore r (assign_rows p a xs)
  unfolding assign_rows assign_row row_order
  before_assign a r s [] e b = tt
  before_assign a r s (x ∷ xs) e b = (like_slot r s x e ∙ b.0, before_assign a r s xs e b.1)

  pub sorted_assign : (a : Action) (rs : List Row) → SortedRows rs → SortedRows (assign_rows p a rs)
  unfolding assign_rows assign_row
  sorted_assign a [] s = tt
  sorted_assign a (x ∷ xs) s = (before_assign a (assign_row (p x) a x) x xs refl s.0, sorted_assign a xs s.1)

-- ---- at most one row more
pub length_insert : (r : Row) (rs : List Row) → length (insert_row r rs) ≤ suc (length rs)
unfolding insert_row
length_insert r [] = omega arith
length_insert r (x ∷ xs) = go (row_order r x) (length_insert r xs)
  where
    go : (o : Ordering) → length (insert_row r xs) ≤ suc (length xs) → length (insert_row_by o r x xs (insert_row r xs)) ≤ suc (suc (length xs))
    go Ordering.Less ih = omega arith
    go Ordering.Equal ih = omega arith
    go Ordering.Greater ih = omega arith

pub length_remove : (p : Row → Bool) (rs : List Row) → length (remove_rows p rs) ≤ length rs
unfolding remove_rows
length_remove p [] = omega arith
length_remove p (x ∷ xs) = go (p x) (length_remove p xs)
  where
    go : (c : Bool) → length (remove_rows p xs) ≤ length xs → length (cond c (remove_rows p xs) (x ∷ remove_rows p xs)) ≤ suc (length xs)
    go true ih = omega arith
    go false ih = omega arith

pub length_assign : (p : Row → Bool) (a : Action) (rs : List Row) → length (assign_rows p a rs) ≡ length rs
unfolding assign_rows
length_assign p a [] = refl
length_assign p a (x ∷ xs) = ap suc (length_assign p a xs)

-- ---- members
before_mem : (r x : Row) (xs : List Row) → RowBefore r xs → Memᴰ x xs → row_order r x ≡ Ordering.Less
before_mem r x [] b m = absurd (Memᴰ.not-nil m)
before_mem r x (y ∷ ys) b m = ⊎_elim (λ e. rw e b.0) (before_mem r x ys b.1) (Memᴰ.cases_cons m)

-- no row stands before itself
never_less : (r : Row) → row_order r r ≡ Ordering.Less → ⊥
never_less r e = equal≢less (sym (row_self r) ∙ e)

-- no member of rows in order stands before the first of them
first_after : (x y : Row) (ys : List Row) → RowBefore y ys → Memᴰ x (y ∷ ys) → row_order x y ≡ Ordering.Less → ⊥
first_after x y ys b m h =
    ⊎_elim (λ e. never_less y (rw e at h)) (λ n. never_less x (row_chain x y x h (before_mem y x ys b n))) (Memᴰ.cases_cons m)

pub same_rows : (rs ss : List Row) → SortedRows rs → SortedRows ss → ((x : Row) → Memᴰ x rs → Memᴰ x ss) → ((x : Row) → Memᴰ x ss → Memᴰ x rs) → rs ≡ ss
same_rows [] [] s t f g = refl
same_rows [] (y ∷ ys) s t f g = absurd (Memᴰ.not-nil (g y (Memᴰ.head refl)))
same_rows (x ∷ xs) [] s t f g = absurd (Memᴰ.not-nil (f x (Memᴰ.head refl)))
same_rows (x ∷ xs) (y ∷ ys) s t f g = ap₂ {C = List Row} ◌∷◌ heads (same_rows xs ys s.1 t.1 forth back)
  where
    heads : x ≡ y
    heads = ⊎_elim (λ e. e) (λ m. absurd (first_after y x xs s.0 (g y (Memᴰ.head refl)) (before_mem y x ys t.0 m))) (Memᴰ.cases_cons (f x (Memᴰ.head refl)))

    forth : (z : Row) → Memᴰ z xs → Memᴰ z ys
    forth z m = ⊎_elim (λ e. absurd (never_less x (ap (row_order x) (heads ∙ sym e) ∙ before_mem x z xs s.0 m))) (λ n. n) (Memᴰ.cases_cons (f z (Memᴰ.tail m)))

    back : (z : Row) → Memᴰ z ys → Memᴰ z xs
    back z m = ⊎_elim (λ e. absurd (never_less y (ap (row_order y) (sym heads ∙ sym e) ∙ before_mem y z ys t.0 m))) (λ n. n) (Memᴰ.cases_cons (g z (Memᴰ.tail m)))
