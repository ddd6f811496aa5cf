-- Document 01, "Tables and replay": the tables of all switches as one list of rows, switches rising, then table order, and
-- the changes of a table on such a list.
use Rattle.std.specs.Prelude.{◌≡◌, Bool, false, ◌&&◌, ◌||◌, cond, List, [], ◌∷◌, ℕ, eqb, take}
use Rattle.flow.specs.Entries.{key_order, is_equal, same_key}
use Rattle.std.specs.Ordering.{nat_cmp, ordering_then}
use Rattle.flow_table.specs.FlowTable.{Table, inside, clash, admits}
use Rattle.flow_table.specs.Switches.{Tables}
use Rattle.rows.specs.Types.{Action, Key, Entry, Ordering, Row, Rows, Filter}

-- the rows that an array holds
abbrev pub rows_of : Rows → List Row
rows_of t = take t.len t.rows

abbrev pub row : ℕ → Entry → Row
row w e = record { switch = w; entry = e }

-- by switch, then in table order
unfoldable pub row_order : Row → Row → Ordering
row_order r s = ordering_then (nat_cmp r.switch s.switch) (key_order r.entry.key s.entry.key)

-- the same switch and key
unfoldable pub same_slot : Row → Row → Bool
same_slot r s = is_equal (row_order r s)

-- every row of the list stands after r
abbrev pub RowBefore : Row → List Row → Type 0
RowBefore r [] = Unit {0}
RowBefore r (x ∷ xs) = (row_order r x ≡ Ordering.Less) × RowBefore r xs

-- in strictly rising order
abbrev pub SortedRows : List Row → Type 0
SortedRows [] = Unit {0}
SortedRows (x ∷ xs) = RowBefore x xs × SortedRows xs

-- the table of switch w: its entries, in the rows' order
abbrev pub table_of : ℕ → List Row → Table
table_of w [] = []
table_of w (x ∷ xs) = cond (eqb w x.switch) (x.entry ∷ table_of w xs) (table_of w xs)

abbrev pub tables_of : List Row → Tables
tables_of rs = λ w. table_of w rs

-- ---- three changes of rows, and one question, by a test on rows
-- a row put at its place, over one with its switch and key
abbrev pub insert_row_by : Ordering → Row → Row → List Row → List Row → List Row
insert_row_by Ordering.Less r x xs rest = r ∷ x ∷ xs
insert_row_by Ordering.Equal r x xs rest = r ∷ xs
insert_row_by Ordering.Greater r x xs rest = x ∷ rest

unfoldable pub insert_row : Row → List Row → List Row
insert_row r [] = r ∷ []
insert_row r (x ∷ xs) = insert_row_by (row_order r x) r x xs (insert_row r xs)

-- without the rows that pass the test
unfoldable pub remove_rows : (Row → Bool) → List Row → List Row
remove_rows p [] = []
remove_rows p (x ∷ xs) = cond (p x) (remove_rows p xs) (x ∷ remove_rows p xs)

-- the action a at each row that passes the test
unfoldable pub assign_row : Bool → Action → Row → Row
assign_row b a x = row x.switch (record { key = x.entry.key; action = cond b a x.entry.action })

unfoldable pub assign_rows : (Row → Bool) → Action → List Row → List Row
assign_rows p a [] = []
assign_rows p a (x ∷ xs) = assign_row (p x) a x ∷ assign_rows p a xs

-- some row passes the test
unfoldable pub any_row : (Row → Bool) → List Row → Bool
any_row p [] = false
any_row p (x ∷ xs) = p x || any_row p xs

-- ---- the tests that events make
-- the row is of switch w, and its key passes the test
unfoldable pub on_switch : ℕ → (Key → Bool) → Row → Bool
on_switch w p x = eqb w x.switch && p x.entry.key

abbrev pub passes : Filter → Key → Bool
passes Filter.Nothing = λ k. false
passes (Filter.Same k) = same_key k
passes (Filter.Within m) = inside m
passes (Filter.Clash k) = clash k
passes (Filter.Fits p) = admits p
