-- The rows of a text's lines put in order: the result is in order and has just the lines' rows; or it is the lowest line whose switch
-- and key stand on an earlier line. Assumes nothing.
use mathlib.Core.Path.{◌≡◌, refl, sym, ◌∙◌, ap, subst}
use mathlib.Core.Bool.{Bool, true, false, ◌||◌, cond, true≢false, false≢true, or-true}
use Rattle.std.specs.Prelude.{Option, None, Some}
use mathlib.Core.Logic.{◌↔◌, ◌⊎◌, inl, inr, ⊎_elim}
use mathlib.Core.List.Memᴰ
use mathlib.Core.List.{List, [], ◌∷◌, ◌++◌, Memᴰ}
use Prim.Native.Nat.{ℕ, zero, suc, ◌+◌, ◌-◌, ◌≤◌, ◌<◌}
use native.Mathlib.Numerals.{add-one}
use native.Mathlib.Omega.{arith}
use lib.Dec.{ltb}
use lib.ListN.{length, take, drop, get_or}
use Rattle.std.specs.List.{slice_get}
use lib.Seq.{length-take-le, take-add, drop_at}
use borrow.Author.Tests.{ltb-true, ltb-false}
use Rattle.flow.specs.Entries.{is_equal}
use Rattle.std.specs.Prelude.{Result, Ok, Err}
use Rattle.basics.proofs.Booleans.{split, or_cases}
use Rattle.rows.specs.Types.{Ordering}
use Rattle.rows.specs.declared.row.Row.{Row}
use Rattle.rows.specs.Rows.{row_order, same_slot, SortedRows, insert_row_by, insert_row, any_row}
use Rattle.rows_sort.specs.Sorting.{stands_in, stands_earlier, sort_from, sort_rows}
use Rattle.rows_search.proofs.Found.{or_swap, any_insert}
use Rattle.rows.proofs.RowOrder.{slot_of, same_slot_iff}
use Rattle.basics.proofs.Arrays.{next, ended}
use Rattle.rows.proofs.RowLaws.{sorted_insert_row, same_rows}

-- the line that a sort comes to, by whether its row's switch and key are there
module _ (l : List Row) (n k : ℕ) (d : Row) (h : k < n) (fits : n ≤ length l) (rs : List Row) where
  pub line_twice : any_row (same_slot (get_or l k d)) rs ≡ true → sort_from k rs (drop k (take n l)) ≡ Err k
  unfolding sort_from
  line_twice e = rw (next l n k d h fits, e) refl

  pub line_first : any_row (same_slot (get_or l k d)) rs ≡ false → sort_from k rs (drop k (take n l)) ≡ sort_from (k + 1) (insert_row (get_or l k d) rs) (drop (k + 1) (take n l))
  unfolding sort_from
  line_first e = rw (next l n k d h fits, e) refl

pub no_lines : (l : List Row) (n k : ℕ) (rs : List Row) → n ≤ k → n ≤ length l → sort_from k rs (drop k (take n l)) ≡ Ok rs
unfolding sort_from
no_lines l n k rs h fits = rw (ended l n k h fits) refl

-- of the first n rows those from k on
left_of : (l : List Row) (n k : ℕ) → k ≤ n → k ≤ length l → drop k (take n l) ≡ take (n - k) (drop k l)
left_of l n k h fits =
    let e : n ≡ k + (n - k) = omega arith in
    ap (λ j. drop k (take j l)) e ∙ ap (drop k) (take-add k (n - k) l) ∙ drop_at (take k l) (take (n - k) (drop k l)) k (length-take-le k l fits)

pub same_left : (l₀ l : List Row) (n k : ℕ) → k ≤ n → k ≤ length l₀ → length l ≡ length l₀ → drop k l ≡ drop k l₀ → drop k (take n l) ≡ drop k (take n l₀)
same_left l₀ l n k h fits size e = left_of l n k h (omega arith) ∙ ap (take (n - k)) e ∙ sym (left_of l₀ n k h fits)

-- ---- which switches and keys, and which rows, are there after an insert
mem_insert : (y r : Row) (rs : List Row) → Memᴰ y (insert_row r rs) → (y ≡ r) ⊎ Memᴰ y rs
unfolding insert_row
mem_insert y r [] m = Memᴰ.cases_cons m
mem_insert y r (x ∷ xs) m = go (row_order r x) (mem_insert y r xs) m
  where
    go : (o : Ordering) → (Memᴰ y (insert_row r xs) → (y ≡ r) ⊎ Memᴰ y xs) → Memᴰ y (insert_row_by o r x xs (insert_row r xs)) → (y ≡ r) ⊎ Memᴰ y (x ∷ xs)
    go Ordering.Less ih n = Memᴰ.cases_cons n
    go Ordering.Equal ih n = ⊎_elim (λ e. inl e) (λ k. inr (Memᴰ.tail k)) (Memᴰ.cases_cons n)
    go Ordering.Greater ih n = ⊎_elim (λ e. inr (Memᴰ.head e)) (λ k. ⊎_elim (λ e. inl e) (λ j. inr (Memᴰ.tail j)) (ih k)) (Memᴰ.cases_cons n)

insert_mem : (r : Row) (rs : List Row) → Memᴰ r (insert_row r rs)
unfolding insert_row
insert_mem r [] = Memᴰ.head refl
insert_mem r (x ∷ xs) = go (row_order r x) (insert_mem r xs)
  where
    go : (o : Ordering) → Memᴰ r (insert_row r xs) → Memᴰ r (insert_row_by o r x xs (insert_row r xs))
    go Ordering.Less ih = Memᴰ.head refl
    go Ordering.Equal ih = Memᴰ.head refl
    go Ordering.Greater ih = Memᴰ.tail ih

-- a row whose switch and key are not there takes no other's place
keep_mem : (y r : Row) (rs : List Row) → any_row (same_slot r) rs ≡ false → Memᴰ y rs → Memᴰ y (insert_row r rs)
unfolding insert_row any_row same_slot
keep_mem y r [] h m = absurd (Memᴰ.not-nil m)
keep_mem y r (x ∷ xs) h m = go (row_order r x) h (keep_mem y r xs)
  where
    go : (o : Ordering) → (is_equal o || any_row (same_slot r) xs) ≡ false → (any_row (same_slot r) xs ≡ false → Memᴰ y xs → Memᴰ y (insert_row r xs))
        → Memᴰ y (insert_row_by o r x xs (insert_row r xs))
    go Ordering.Less g ih = Memᴰ.tail m
    go Ordering.Equal g ih = absurd (true≢false g)
    go Ordering.Greater g ih = ⊎_elim (λ e. Memᴰ.head e) (λ n. Memᴰ.tail (ih g n)) (Memᴰ.cases_cons m)

-- ---- the lines up to k and from k on
module _ {A : Type 0} where
  -- none is left: all are taken
  none_left : (k : ℕ) (l : List A) → drop k l ≡ [] → take k l ≡ l
  none_left zero l e = sym e
  none_left (suc k) [] e = refl
  none_left (suc k) (y ∷ l) e = ap (λ s. y ∷ s) (none_left k l e)

  none_past : (k : ℕ) (l : List A) (j : ℕ) → drop k l ≡ [] → k ≤ j → slice_get l j ≡ None
  none_past zero l j e h = ap (λ s. slice_get s j) e
  none_past (suc k) [] j e h = refl
  none_past (suc k) (y ∷ l) zero e h = absurd (omega arith)
  none_past (suc k) (y ∷ l) (suc j) e h = none_past k l j e (omega arith)

  -- the next is x
  module _ (x : A) (xs : List A) where
    next_at : (k : ℕ) (l : List A) → drop k l ≡ x ∷ xs → slice_get l k ≡ Some x
    next_at zero l e = ap (λ s. slice_get s 0) e
    next_at (suc k) [] e = cc
    next_at (suc k) (y ∷ l) e = next_at k l e

    next_taken : (k : ℕ) (l : List A) → drop k l ≡ x ∷ xs → take (suc k) l ≡ take k l ++ (x ∷ [])
    next_taken zero l e = ap (take 1) e
    next_taken (suc k) [] e = cc
    next_taken (suc k) (y ∷ l) e = ap (λ s. y ∷ s) (next_taken k l e)

    next_left : (k : ℕ) (l : List A) → drop k l ≡ x ∷ xs → drop (suc k) l ≡ xs
    next_left zero l e = ap (drop 1) e
    next_left (suc k) [] e = cc
    next_left (suc k) (y ∷ l) e = next_left k l e

-- the rows of lines 0 .. k-1, in order: just theirs, and each switch and key once
pub record Ordered (lines : List Row) (k : ℕ) (rs : List Row) : Type 0 where
  pub sorted : SortedRows rs
  pub forth : (x : Row) → Memᴰ x rs → Memᴰ x (take k lines)
  pub back : (x : Row) → Memᴰ x (take k lines) → Memᴰ x rs
  pub once : (j : ℕ) → j < k → stands_earlier lines j ≡ false
  slots : (x : Row) → any_row (same_slot x) rs ≡ any_row (same_slot x) (take k lines)

-- what a sort of the lines answers: the lowest line whose switch and key stand on an earlier line; or the lines' rows in order, and
-- there is no such line
pub record LowestTwice (lines : List Row) (k : ℕ) : Type 0 where
  pub twice : stands_earlier lines k ≡ true
  pub lowest : (j : ℕ) → j < k → stands_earlier lines j ≡ false

pub record InOrder (lines rs : List Row) : Type 0 where
  pub sorted : SortedRows rs
  pub forth : (x : Row) → Memᴰ x rs → Memᴰ x lines
  pub back : (x : Row) → Memᴰ x lines → Memᴰ x rs
  pub once : (j : ℕ) → stands_earlier lines j ≡ false

abbrev pub Outcome : List Row → Result (List Row) ℕ → Type 0
Outcome lines (Err k) = LowestTwice lines k
Outcome lines (Ok rs) = InOrder lines rs

any_snoc : (p : Row → Bool) (rs : List Row) (x : Row) → any_row p (rs ++ (x ∷ [])) ≡ (p x || any_row p rs)
unfolding any_row
any_snoc p [] x = refl
any_snoc p (y ∷ ys) x = ap (λ b. p y || b) (any_snoc p ys x) ∙ or_swap (p y) (p x) (any_row p ys)

none_stands : (lines : List Row) (j : ℕ) → slice_get lines j ≡ None → stands_earlier lines j ≡ false
unfolding stands_earlier
none_stands lines j e = ap (stands_in (take j lines)) e

module _ (lines : List Row) where
  -- line k's row x: whether its switch and key stand on an earlier line
  stands : (k : ℕ) (rs : List Row) (x : Row) (xs : List Row) → Ordered lines k rs → drop k lines ≡ x ∷ xs → stands_earlier lines k ≡ any_row (same_slot x) rs
  unfolding stands_earlier
  stands k rs x xs o e = ap (stands_in (take k lines)) (next_at x xs k lines e) ∙ sym (o.slots x)

  one_more : (k : ℕ) (rs : List Row) (x : Row) (xs : List Row) → Ordered lines k rs → drop k lines ≡ x ∷ xs → any_row (same_slot x) rs ≡ false → Ordered lines (k + 1) (insert_row x rs)
  one_more k rs x xs o e n = record {
    sorted = sorted_insert_row x rs o.sorted;
    forth = λ y m. rw taken (⊎_elim (λ q. Memᴰ.append_right (take k lines) (Memᴰ.head q)) (λ h. Memᴰ.append_left (x ∷ []) (o.forth y h)) (mem_insert y x rs m));
    back = λ y m. ⊎_elim (λ h. keep_mem y x rs n (o.back y h)) (λ h. Memᴰ.cast (Memᴰ.eq_of_singleton h) (insert_mem x rs)) (Memᴰ.append_cases (take k lines) (rw taken at m));
    once = λ j h. split (ltb j k) (λ u. o.once j (ltb-true j k u)) (λ u. let q : j ≡ k = omega (arith, ltb-false j k u) in ap (stands_earlier lines) q ∙ stands k rs x xs o e ∙ n);
    slots = λ y. any_insert y x rs ∙ ap (λ b. same_slot y x || b) (o.slots y) ∙ sym (ap (any_row (same_slot y)) taken ∙ any_snoc (same_slot y) (take k lines) x);
  }
    where
      taken : take (k + 1) lines ≡ take k lines ++ (x ∷ [])
      taken = ap (λ j. take j lines) (add-one k) ∙ next_taken x xs k lines e

  from_line : (k : ℕ) (rs rest : List Row) → Ordered lines k rs → drop k lines ≡ rest → Outcome lines (sort_from k rs rest)
  unfolding sort_from
  from_line k rs [] o e = record {
    sorted = o.sorted;
    forth = λ x m. rw (← none_left k lines e) (o.forth x m);
    back = λ x m. o.back x (rw (none_left k lines e) m);
    once = λ j. split (ltb j k) (λ u. o.once j (ltb-true j k u)) (λ u. past j (ltb-false j k u));
  }
    where
      past : (j : ℕ) → k ≤ j → stands_earlier lines j ≡ false
      past j h = none_stands lines j (none_past k lines j e h)
  from_line k rs (x ∷ xs) o e = go (any_row (same_slot x) rs) refl (λ n. from_line (k + 1) (insert_row x rs) xs (one_more k rs x xs o e n) (ap (λ j. drop j lines) (add-one k) ∙ next_left x xs k lines e))
    where
      go : (b : Bool) → any_row (same_slot x) rs ≡ b → (any_row (same_slot x) rs ≡ false → Outcome lines (sort_from (k + 1) (insert_row x rs) xs))
          → Outcome lines (cond b (Err k) (sort_from (k + 1) (insert_row x rs) xs))
      go true u ih = record { twice = stands k rs x xs o e ∙ u; lowest = o.once }
      go false u ih = ih u

  -- what a sort of the lines answers
  pub sort_outcome : Outcome lines (sort_rows lines)
  unfolding sort_rows
  sort_outcome = from_line 0 [] lines start refl
    where
      start : Ordered lines 0 []
      start = record {
        sorted = tt;
        forth = λ x m. m;
        back = λ x m. m;
        once = λ j h. absurd (omega arith);
        slots = λ x. refl;
      }

-- ---- the same by equations: each outcome has just its meaning
module _ (lines : List Row) where
  pub sort_line : (k : ℕ) → sort_rows lines ≡ Err k → LowestTwice lines k
  sort_line k e = subst (Outcome lines) e (sort_outcome lines)

  pub sort_rows_lem : (rs : List Row) → sort_rows lines ≡ Ok rs → InOrder lines rs
  sort_rows_lem rs e = subst (Outcome lines) e (sort_outcome lines)

  pub line_sort : (k : ℕ) → LowestTwice lines k → sort_rows lines ≡ Err k
  line_sort k t = go (sort_rows lines) (sort_outcome lines)
    where
      go : (r : Result (List Row) ℕ) → Outcome lines r → r ≡ Err k
      go (Err j) o =
          split (ltb j k)
          (λ u. absurd (true≢false (sym o.twice ∙ t.lowest j (ltb-true j k u))))
          (λ u. split (ltb k j)
          (λ v. absurd (true≢false (sym t.twice ∙ o.lowest k (ltb-true k j v))))
          (λ v. ap Err (omega (arith, ltb-false j k u, ltb-false k j v))))
      go (Ok rs) o = absurd (true≢false (sym t.twice ∙ o.once k))

  pub rows_sort : (rs : List Row) → InOrder lines rs → sort_rows lines ≡ Ok rs
  rows_sort rs s = go (sort_rows lines) (sort_outcome lines)
    where
      go : (r : Result (List Row) ℕ) → Outcome lines r → r ≡ Ok rs
      go (Err j) o = absurd (true≢false (sym o.twice ∙ s.once j))
      go (Ok qs) o = ap Ok (same_rows qs rs o.sorted s.sorted (λ x m. s.back x (o.forth x m)) (λ x m. o.back x (s.forth x m)))

-- a row among the first k lines passes a test just if an earlier line's row does
any_earlier : (p : Row → Bool) (k : ℕ) (lines : List Row) → any_row p (take k lines) ≡ true → (i : ℕ) × (x : Row) × (i < k) × (slice_get lines i ≡ Some x) × (p x ≡ true)
unfolding any_row
any_earlier p zero lines e = absurd (false≢true e)
any_earlier p (suc k) [] e = absurd (false≢true e)
any_earlier p (suc k) (y ∷ l) e =
    or_cases (p y) (any_row p (take k l)) e
    (λ u. (0, y, omega arith, refl, u))
    (λ u. let h = any_earlier p k l u in (suc h.0, h.1, omega (arith, h.2), h.3, h.4))

earlier_any : (p : Row → Bool) (k : ℕ) (lines : List Row) (i : ℕ) (x : Row) → i < k → slice_get lines i ≡ Some x → p x ≡ true → any_row p (take k lines) ≡ true
unfolding any_row
earlier_any p zero lines i x h e u = absurd (omega arith)
earlier_any p (suc k) [] i x h e u = cc
earlier_any p (suc k) (y ∷ l) zero x h e u = let q : y ≡ x = cc in rw (ap p q ∙ u) refl
earlier_any p (suc k) (y ∷ l) (suc i) x h e u = rw (earlier_any p k l i x (omega arith) e u) (or-true (p y))

-- line k holds a row whose switch and key a row of an earlier line has
abbrev pub Twice : List Row → ℕ → Type 0
Twice lines k = (i : ℕ) × (x : Row) × (y : Row) × (i < k) × (slice_get lines i ≡ Some x) × (slice_get lines k ≡ Some y) × (slot_of x ≡ slot_of y)

pub stands_iff : (lines : List Row) (k : ℕ) → (stands_earlier lines k ≡ true) ↔ Twice lines k
unfolding stands_earlier
stands_iff lines k = (go (slice_get lines k) refl, back)
  where
    go : (o : Option Row) → slice_get lines k ≡ o → stands_in (take k lines) o ≡ true → Twice lines k
    go None q e = absurd (false≢true e)
    go (Some y) q e = let h = any_earlier (same_slot y) k lines e in (h.0, h.1, y, h.2, h.3, q, sym ((same_slot_iff y h.1).0 h.4))

    back : Twice lines k → stands_in (take k lines) (slice_get lines k) ≡ true
    back t = rw t.5 (earlier_any (same_slot t.2) k lines t.0 t.1 t.3 t.4 ((same_slot_iff t.2 t.1).1 (sym t.6)))
