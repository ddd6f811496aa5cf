-- Rows as the tables of the switches: each table is in order, and each change of the rows is that change of one switch's table.
-- Assumes nothing.
use mathlib.Core.Path.{◌≡◌, refl, sym, ◌∙◌, ap, subst}
use mathlib.Core.Bool.{Bool, true, false, ◌&&◌, ◌||◌, cond}
use Rattle.std.specs.Prelude.{Some}
use mathlib.Core.Logic.{⊎_elim}
use mathlib.Core.List.Memᴰ
use mathlib.Core.List.{List, [], ◌∷◌, Memᴰ}
use Prim.Native.Nat.{ℕ}
use native.Mathlib.Omega.{arith}
use lib.Dec.{eqb}
use borrow.Author.Tests.{eqb-true, eq-eqb}
use Rattle.flow.specs.Entries.{key_order, same_key}
use Rattle.basics.proofs.Booleans.{split, and_left, and_right, cond_same, cond_swap}
use Rattle.flow.proofs.Orders.{number_equal}
use Rattle.flow.proofs.Entries.{same_eq}
use Rattle.flow_table.specs.FlowTable.{Before, Sorted, get, insert, remove_if, assign_if, any_of}
use Rattle.flow_table.proofs.TableLaws.{sorted_insert, get_insert, table_ext}
use Rattle.rows.specs.Types.{Action, Key, Entry, Ordering, Row}
use Rattle.rows.specs.Rows.{row, row_order, RowBefore, SortedRows, table_of, insert_row_by, insert_row, remove_rows, assign_row, assign_rows, any_row, on_switch}
use Rattle.rows.proofs.RowOrder.{slot_of, row_same, row_self, like_slot}
use Rattle.rows.proofs.RowLaws.{sorted_insert_row, same_rows}

-- ---- the table of a switch is in order
less_key : (r s : Row) → r.switch ≡ s.switch → row_order r s ≡ Ordering.Less → key_order r.entry.key s.entry.key ≡ Ordering.Less
unfolding row_order
less_key r s q e = rw (number_equal q) at e

before_table : (r : Row) (xs : List Row) → RowBefore r xs → Before r.entry.key (table_of r.switch xs)
before_table r [] b = tt
before_table r (x ∷ xs) b = go (eqb r.switch x.switch) refl (before_table r xs b.1)
  where
    go : (c : Bool) → eqb r.switch x.switch ≡ c → Before r.entry.key (table_of r.switch xs) → Before r.entry.key (cond c (x.entry ∷ table_of r.switch xs) (table_of r.switch xs))
    go true e ih = (less_key r x (eqb-true _ _ e) b.0, ih)
    go false e ih = ih

pub sorted_table : (w : ℕ) (rs : List Row) → SortedRows rs → Sorted (table_of w rs)
sorted_table w [] s = tt
sorted_table w (x ∷ xs) s = go (eqb w x.switch) refl (sorted_table w xs s.1)
  where
    go : (c : Bool) → eqb w x.switch ≡ c → Sorted (table_of w xs) → Sorted (cond c (x.entry ∷ table_of w xs) (table_of w xs))
    go true e ih = (rw (eqb-true w x.switch e) (before_table x xs s.0), ih)
    go false e ih = ih

-- ---- a row is there just if its entry is in the table of its switch; so the tables determine the rows
pub row_entry : (x : Row) (rs : List Row) → Memᴰ x rs → Memᴰ x.entry (table_of x.switch rs)
row_entry x [] m = absurd (Memᴰ.not-nil m)
row_entry x (y ∷ ys) m = ⊎_elim here (λ n. there (eqb x.switch y.switch) (row_entry x ys n)) (Memᴰ.cases_cons m)
  where
    here : x ≡ y → Memᴰ x.entry (table_of x.switch (y ∷ ys))
    here q = rw (eq-eqb x.switch y.switch (ap (λ r. r.switch) q)) (Memᴰ.head (ap (λ r. r.entry) q))

    there : (b : Bool) → Memᴰ x.entry (table_of x.switch ys) → Memᴰ x.entry (cond b (y.entry ∷ table_of x.switch ys) (table_of x.switch ys))
    there true n = Memᴰ.tail n
    there false n = n

pub entry_row : (w : ℕ) (e : Entry) (rs : List Row) → Memᴰ e (table_of w rs) → Memᴰ (row w e) rs
entry_row w e [] m = absurd (Memᴰ.not-nil m)
entry_row w e (y ∷ ys) m = go (eqb w y.switch) refl m (entry_row w e ys)
  where
    go : (b : Bool) → eqb w y.switch ≡ b → Memᴰ e (cond b (y.entry ∷ table_of w ys) (table_of w ys)) → (Memᴰ e (table_of w ys) → Memᴰ (row w e) ys) → Memᴰ (row w e) (y ∷ ys)
    go true u n ih = ⊎_elim (λ q. let p = eqb-true w y.switch u in Memᴰ.head (λ i. row (p i) (q i))) (λ k. Memᴰ.tail (ih k)) (Memᴰ.cases_cons n)
    go false u n ih = Memᴰ.tail (ih n)

pub same_tables : (rs ss : List Row) → SortedRows rs → SortedRows ss → ((w : ℕ) → table_of w rs ≡ table_of w ss) → rs ≡ ss
same_tables rs ss s t h =
    same_rows rs ss s t
    (λ x m. entry_row x.switch x.entry ss (subst (Memᴰ x.entry) (h x.switch) (row_entry x rs m)))
    (λ x m. entry_row x.switch x.entry rs (subst (Memᴰ x.entry) (sym (h x.switch)) (row_entry x ss m)))

-- ---- a row put in
greater≢equal : Ordering.Greater ≡ Ordering.Equal → ⊥
greater≢equal p = let z : ◌≡◌ {A = ℕ} 0 1 = cc in omega arith

module _ (w : ℕ) (k : Key) where
  -- the row holds what is found at key k of switch w
  at : Row → Bool
  at x = eqb w x.switch && same_key k x.entry.key

  get_cons : (x : Row) (xs : List Row) → get k (table_of w (x ∷ xs)) ≡ cond (at x) (Some x.entry.action) (get k (table_of w xs))
  unfolding at
  get_cons x xs = go (eqb w x.switch)
    where
      go : (b : Bool) → get k (cond b (x.entry ∷ table_of w xs) (table_of w xs)) ≡ cond (b && same_key k x.entry.key) (Some x.entry.action) (get k (table_of w xs))
      go true = refl
      go false = refl

  at_slot : (r x : Row) → slot_of r ≡ slot_of x → at r ≡ at x
  unfolding at
  at_slot r x e = ap (λ s. eqb w s.switch && same_key k s.key) e

  at_both : (r x : Row) → at r ≡ true → at x ≡ true → slot_of r ≡ slot_of x
  unfolding at
  at_both r x e f =
      let p = sym (eqb-true _ _ (and_left (eqb w r.switch) _ e)) ∙ eqb-true _ _ (and_left (eqb w x.switch) _ f) in
      let q = sym (same_eq _ _ (and_right (eqb w r.switch) _ e)) ∙ same_eq _ _ (and_right (eqb w x.switch) _ f) in
      λ i. record { switch = p i; key = q i }

  get_insert_row : (r : Row) (rs : List Row) → get k (table_of w (insert_row r rs)) ≡ cond (at r) (Some r.entry.action) (get k (table_of w rs))
  unfolding insert_row
  get_insert_row r [] = get_cons r []
  get_insert_row r (x ∷ xs) = go (row_order r x) refl (get_insert_row r xs)
    where
      go : (o : Ordering) → row_order r x ≡ o → get k (table_of w (insert_row r xs)) ≡ cond (at r) (Some r.entry.action) (get k (table_of w xs))
          → get k (table_of w (insert_row_by o r x xs (insert_row r xs))) ≡ cond (at r) (Some r.entry.action) (get k (table_of w (x ∷ xs)))
      go Ordering.Less q ih = get_cons r (x ∷ xs)
      go Ordering.Equal q ih =
          get_cons r xs ∙ sym (ap (cond (at r) (Some r.entry.action))
          (get_cons x xs ∙ ap (λ b. cond b (Some x.entry.action) (get k (table_of w xs))) (sym (at_slot r x (row_same r x q))))
          ∙ cond_same (at r) _ _ _)
      go Ordering.Greater q ih =
          get_cons x (insert_row r xs) ∙ ap (cond (at x) (Some x.entry.action)) ih
          ∙ cond_swap (at x) (at r) _ _ _ (λ e f. greater≢equal (sym q ∙ like_slot r x x (at_both r x f e) ∙ row_self x))
          ∙ ap (cond (at r) (Some r.entry.action)) (sym (get_cons x xs))

pub table_insert : (w : ℕ) (r : Row) (rs : List Row) → SortedRows rs → table_of w (insert_row r rs) ≡ cond (eqb w r.switch) (insert r.entry.key r.entry.action (table_of w rs)) (table_of w rs)
unfolding at
table_insert w r rs s =
    split (eqb w r.switch)
    (λ e. rw e (table_ext (table_of w (insert_row r rs)) (insert r.entry.key r.entry.action (table_of w rs)) (sorted_table w (insert_row r rs) (sorted_insert_row r rs s)) (sorted_insert r.entry.key r.entry.action (table_of w rs) (sorted_table w rs s))
    (λ k. get_insert_row w k r rs ∙ rw e (sym (get_insert k r.entry.key r.entry.action (table_of w rs))))))
    (λ e. rw e (table_ext (table_of w (insert_row r rs)) (table_of w rs) (sorted_table w (insert_row r rs) (sorted_insert_row r rs s)) (sorted_table w rs s) (λ k. get_insert_row w k r rs ∙ rw e refl)))

-- ---- rows removed, assigned, asked, by a test on the keys of a switch
-- two switches that differ: a row of the one is none of the other
other : (v w u : ℕ) → eqb v w ≡ false → eqb w u ≡ true → eqb v u ≡ false
other v w u e f = ap (eqb v) (sym (eqb-true w u f)) ∙ e

module _ (w : ℕ) (p : Key → Bool) where
  remove_own : (rs : List Row) → table_of w (remove_rows (on_switch w p) rs) ≡ remove_if p (table_of w rs)
  unfolding remove_rows on_switch
  remove_own [] = refl
  remove_own (x ∷ xs) = go (eqb w x.switch) refl (p x.entry.key) refl (remove_own xs)
    where
      go : (b : Bool) → eqb w x.switch ≡ b → (c : Bool) → p x.entry.key ≡ c → table_of w (remove_rows (on_switch w p) xs) ≡ remove_if p (table_of w xs)
          → table_of w (cond (b && c) (remove_rows (on_switch w p) xs) (x ∷ remove_rows (on_switch w p) xs)) ≡ remove_if p (cond b (x.entry ∷ table_of w xs) (table_of w xs))
      go true u true v ih = rw v ih
      go true u false v ih = rw (u, v) (ap (λ t. x.entry ∷ t) ih)
      go false u c v ih = rw u ih

  remove_other : (v : ℕ) → eqb v w ≡ false → (rs : List Row) → table_of v (remove_rows (on_switch w p) rs) ≡ table_of v rs
  unfolding remove_rows on_switch
  remove_other v d [] = refl
  remove_other v d (x ∷ xs) = go (eqb w x.switch) refl (p x.entry.key) (remove_other v d xs)
    where
      go : (b : Bool) → eqb w x.switch ≡ b → (c : Bool) → table_of v (remove_rows (on_switch w p) xs) ≡ table_of v xs
          → table_of v (cond (b && c) (remove_rows (on_switch w p) xs) (x ∷ remove_rows (on_switch w p) xs)) ≡ table_of v (x ∷ xs)
      go true u true ih = rw (other v w x.switch d u) ih
      go true u false ih = rw ih refl
      go false u c ih = rw ih refl

  pub table_remove : (v : ℕ) (rs : List Row) → table_of v (remove_rows (on_switch w p) rs) ≡ cond (eqb v w) (remove_if p (table_of v rs)) (table_of v rs)
  table_remove v rs = split (eqb v w) (λ e. rw e (rw (eqb-true v w e) (remove_own rs))) (λ e. rw e (remove_other v e rs))

  assign_own : (a : Action) (rs : List Row) → table_of w (assign_rows (on_switch w p) a rs) ≡ assign_if p a (table_of w rs)
  unfolding assign_rows assign_row on_switch
  assign_own a [] = refl
  assign_own a (x ∷ xs) = go (eqb w x.switch) (assign_own a xs)
    where
      go : (b : Bool) → table_of w (assign_rows (on_switch w p) a xs) ≡ assign_if p a (table_of w xs)
          → cond b ((assign_row (b && p x.entry.key) a x).entry ∷ table_of w (assign_rows (on_switch w p) a xs)) (table_of w (assign_rows (on_switch w p) a xs)) ≡ assign_if p a (cond b (x.entry ∷ table_of w xs) (table_of w xs))
      go true ih = ap (λ t. (assign_row (p x.entry.key) a x).entry ∷ t) ih
      go false ih = ih

  assign_other : (v : ℕ) → eqb v w ≡ false → (a : Action) (rs : List Row) → table_of v (assign_rows (on_switch w p) a rs) ≡ table_of v rs
  unfolding assign_rows assign_row on_switch
  assign_other v d a [] = refl
  assign_other v d a (x ∷ xs) = go (eqb w x.switch) refl (assign_other v d a xs)
    where
      go : (b : Bool) → eqb w x.switch ≡ b → table_of v (assign_rows (on_switch w p) a xs) ≡ table_of v xs
          → table_of v (assign_row (b && p x.entry.key) a x ∷ assign_rows (on_switch w p) a xs) ≡ table_of v (x ∷ xs)
      go true u ih = rw (other v w x.switch d u) ih
      go false u ih = rw ih refl

  pub table_assign : (v : ℕ) (a : Action) (rs : List Row) → table_of v (assign_rows (on_switch w p) a rs) ≡ cond (eqb v w) (assign_if p a (table_of v rs)) (table_of v rs)
  table_assign v a rs = split (eqb v w) (λ e. rw e (rw (eqb-true v w e) (assign_own a rs))) (λ e. rw e (assign_other v e a rs))

  pub table_any : (rs : List Row) → any_row (on_switch w p) rs ≡ any_of p (table_of w rs)
  unfolding any_row on_switch
  table_any [] = refl
  table_any (x ∷ xs) = go (eqb w x.switch) (table_any xs)
    where
      go : (b : Bool) → any_row (on_switch w p) xs ≡ any_of p (table_of w xs)
          → ((b && p x.entry.key) || any_row (on_switch w p) xs) ≡ any_of p (cond b (x.entry ∷ table_of w xs) (table_of w xs))
      go true ih = ap (λ t. p x.entry.key || t) ih
      go false ih = ih
