-- Rows in order are the tables of the switches, one after the other, switches rising (`rows_gathered`). The switches hold no more
-- entries together than there are rows (`tables_held`). Assumes nothing.
use mathlib.Core.Path.{◌≡◌, refl, sym, ap, subst}
use mathlib.Core.List.Memᴰ
use mathlib.Core.List.{List, [], ◌∷◌, ◌++◌, map, Memᴰ}
use Prim.Native.Nat.{ℕ, zero, suc, ◌+◌, ◌≤◌, ◌<◌}
use native.Mathlib.Decide.{dec_lt}
use native.Mathlib.Omega.{arith}
use lib.ListN.{length}
use borrow.Author.Tests.{lt-ltb, eq-eqb, ne_eqb}
use Rattle.flow.specs.Entries.{key_order}
use Rattle.flow.proofs.Orders.{number_equal}
use Rattle.basics.specs.Searches.{gather}
use Rattle.basics.proofs.Gathered.{in_gather, gather_in, sum_more, sum_none}
use Rattle.flow_table.specs.FlowTable.{Table, Before, Sorted}
use Rattle.flow_table.specs.Switches.{Tables, InOrder, entries_held}
use Rattle.rows.specs.Types.{Entry, Ordering, Row}
use Rattle.rows.specs.Rows.{row, row_order, RowBefore, SortedRows, table_of, tables_of}
use Rattle.rows.proofs.RowLaws.{same_rows}
use Rattle.rows.proofs.TablesOf.{sorted_table, row_entry, entry_row}

-- the rows of a table of switch w
abbrev rows_at : Tables → ℕ → List Row
rows_at ts w = map (row w) (ts w)

-- ---- a table in order, as rows
key_row : (w : ℕ) (d e : Entry) → key_order d.key e.key ≡ Ordering.Less → row_order (row w d) (row w e) ≡ Ordering.Less
unfolding row_order
key_row w d e h = rw (number_equal refl) h

before_rows : (w : ℕ) (d : Entry) (t : Table) → Before d.key t → RowBefore (row w d) (map (row w) t)
before_rows w d [] b = tt
before_rows w d (e ∷ t) b = (key_row w d e b.0, before_rows w d t b.1)

sorted_rows_lem : (w : ℕ) (t : Table) → Sorted t → SortedRows (map (row w) t)
sorted_rows_lem w [] s = tt
sorted_rows_lem w (e ∷ t) s = (before_rows w e t s.0, sorted_rows_lem w t s.1)

-- ---- one behind the other
before_all : (r : Row) (ys : List Row) → ((y : Row) → Memᴰ y ys → row_order r y ≡ Ordering.Less) → RowBefore r ys
before_all r [] h = tt
before_all r (y ∷ ys) h = (h y (Memᴰ.head refl), before_all r ys (λ z m. h z (Memᴰ.tail m)))

before_both : (r : Row) (xs ys : List Row) → RowBefore r xs → RowBefore r ys → RowBefore r (xs ++ ys)
before_both r [] ys b c = c
before_both r (x ∷ xs) ys b c = (b.0, before_both r xs ys b.1 c)

sorted_both : (xs ys : List Row) → SortedRows xs → SortedRows ys → ((x y : Row) → Memᴰ x xs → Memᴰ y ys → row_order x y ≡ Ordering.Less) → SortedRows (xs ++ ys)
sorted_both [] ys s t h = t
sorted_both (x ∷ xs) ys s t h =
    (before_both x xs ys s.0 (before_all x ys (λ y m. h x y (Memᴰ.head refl) m)), sorted_both xs ys s.1 t (λ z y m n. h z y (Memᴰ.tail m) n))

switch_less : (x y : Row) → x.switch < y.switch → row_order x y ≡ Ordering.Less
unfolding row_order
switch_less x y h = rw (lt-ltb x.switch y.switch h)

switch_of_lem : (ts : Tables) (w : ℕ) (x : Row) → Memᴰ x (rows_at ts w) → x.switch ≡ w
switch_of_lem ts w x m = let f = Memᴰ.of_map (row w) (ts w) m in ap (λ (r : Row). r.switch) (sym f.2)

pub sorted_gathered : (ts : Tables) → InOrder ts → (n : ℕ) → SortedRows (gather (rows_at ts) n)
sorted_gathered ts s zero = tt
sorted_gathered ts s (suc n) =
    sorted_both (gather (rows_at ts) n) (rows_at ts n) (sorted_gathered ts s n) (sorted_rows_lem n (ts n) (s n))
    (λ x y p q. let f = gather_in x (rows_at ts) n p in switch_less x y (omega (arith, f.1, switch_of_lem ts f.0 x f.2, switch_of_lem ts n y q)))

-- no table of a switch that no row has
pub table_beyond : (n : ℕ) (rs : List Row) → ((r : Row) → Memᴰ r rs → r.switch < n) → (w : ℕ) → n ≤ w → table_of w rs ≡ []
table_beyond n [] h w l = refl
table_beyond n (x ∷ xs) h w l =
    let b = h x (Memᴰ.head refl) in
    rw (ne_eqb w x.switch (λ e. omega arith)) (table_beyond n xs (λ r m. h r (Memᴰ.tail m)) w l)

-- rows in order whose switches are all below n are the tables of the switches below n
pub rows_gathered : (n : ℕ) (rs : List Row) → SortedRows rs → ((w : ℕ) → n ≤ w → table_of w rs ≡ []) → rs ≡ gather (λ w. map (row w) (table_of w rs)) n
rows_gathered n rs s none =
    same_rows rs (gather (rows_at ts) n) s (sorted_gathered ts (λ w. sorted_table w rs s) n) forth back
  where
    ts : Tables
    ts w = table_of w rs

    forth : (x : Row) → Memᴰ x rs → Memᴰ x (gather (λ w. map (row w) (table_of w rs)) n)
    forth x m =
        elim (dec_lt x.switch n) [
          | yes l ↦ in_gather x (λ w. map (row w) (table_of w rs)) n x.switch l (Memᴰ.map (row x.switch) (row_entry x rs m))
          | no l ↦ absurd (Memᴰ.not-nil (subst (Memᴰ x.entry) (none x.switch (omega arith)) (row_entry x rs m)))
        ]

    back : (x : Row) → Memᴰ x (gather (λ w. map (row w) (table_of w rs)) n) → Memᴰ x rs
    back x m =
        let f = gather_in x (λ w. map (row w) (table_of w rs)) n m in
        let g = Memᴰ.of_map (row f.0) (table_of f.0 rs) f.2 in
        subst (λ (y : Row). Memᴰ y rs) g.2 (entry_row f.0 g.0 rs g.1)

-- a row is an entry of one switch
row_held : (n : ℕ) (x : Row) (xs : List Row) → entries_held n (tables_of (x ∷ xs)) ≤ entries_held n (tables_of xs) + 1
unfolding entries_held
row_held n x xs =
    sum_more (λ w. length (table_of w (x ∷ xs))) (λ w. length (table_of w xs)) x.switch 1
    (λ w ne. rw (ne_eqb w x.switch ne) refl)
    (rw (eq-eqb x.switch x.switch refl) (omega arith))
    n

pub tables_held : (n : ℕ) (rs : List Row) → entries_held n (tables_of rs) ≤ length rs
unfolding entries_held
tables_held n [] = omega (arith, sum_none n)
tables_held n (x ∷ xs) = omega (arith, row_held n x xs, tables_held n xs)
