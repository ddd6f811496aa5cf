-- What a binary search by the order of rows says of rows in order. Assumes nothing.
use mathlib.Core.Path.{◌≡◌, refl, sym, ap, ◌∙◌}
use mathlib.Core.Bool.{false}
use mathlib.Core.List.{List, [], ◌∷◌}
use Prim.Native.Nat.{ℕ, zero, suc, ◌≤◌, ◌<◌}
use native.Mathlib.Omega.{arith}
use lib.ListN.{length, get_or, set}
use Rattle.std.specs.List.{insert}
use Rattle.std.specs.List.Sorted.{IsNonDecreasingBy, IsBinarySearchResult, IsSearchInRange}
use Rattle.std.specs.Ordering.{ordering_index}
use Rattle.std.specs.Prelude.{Result, Ok, Err, IfOk, IfErr}
use Rattle.flow.specs.Orders.{opposite}
use Rattle.rows.specs.Types.{Ordering}
use Rattle.rows.specs.declared.row.Row.{Row}
use Rattle.rows.specs.Rows.{row_order, same_slot, SortedRows, insert_row, any_row}
use Rattle.rows.proofs.RowOrder.{row_same, row_turn, row_chain, like_slot_right, same_slot_iff}
use Rattle.rows.proofs.RowLaws.{before_at}
use Rattle.rows_search.specs.Inner.{StandsAt, GoesTo}

module _ (r : Row) where
  -- of two rows in order the first does not compare higher
  no_higher : (x y : Row) → row_order x y ≡ Ordering.Less → ordering_index (row_order x r) ≤ ordering_index (row_order y r)
  no_higher x y h = go (row_order y r) refl
    where
      at_most : (o : Ordering) → ordering_index o ≤ 2
      at_most Ordering.Less = omega arith
      at_most Ordering.Equal = omega arith
      at_most Ordering.Greater = omega arith

      go : (o : Ordering) → row_order y r ≡ o → ordering_index (row_order x r) ≤ ordering_index o
      go Ordering.Less e = rw (row_chain x y r h e) (omega arith)
      go Ordering.Equal e = rw (← like_slot_right x y r (row_same y r e), h) (omega arith)
      go Ordering.Greater e = at_most (row_order x r)

  rises : (rs : List Row) → SortedRows rs → IsNonDecreasingBy (λ y. ordering_index (row_order y r)) rs
  rises [] s i j d h m = absurd (omega arith)
  rises (x ∷ xs) s zero zero d h m = omega arith
  rises (x ∷ xs) s zero (suc j) d h m = no_higher x (get_or xs j d) (before_at x xs j d s.0 (omega arith))
  rises (x ∷ xs) s (suc i) zero d h m = absurd (omega arith)
  rises (x ∷ xs) s (suc i) (suc j) d h m = rises xs s.1 i j d (omega arith) (omega arith)

  -- a row that compares lower is passed, one that compares higher is not
  turned : {o : Ordering} (x : Row) → row_order x r ≡ o → row_order r x ≡ opposite o
  turned x e = row_turn x r ∙ ap opposite e

  over : (rs : List Row) (i : ℕ) → SortedRows rs → i < length rs → ((d : Row) → row_order (get_or rs i d) r ≡ Ordering.Equal) → insert_row r rs ≡ set rs i r
  unfolding insert_row
  over [] i s m e = absurd (omega arith)
  over (x ∷ xs) zero s m e = rw (turned x (e x)) refl
  over (x ∷ xs) (suc i) s m e =
      let y = get_or xs i x in
      let less : row_order x r ≡ Ordering.Less = sym (like_slot_right x y r (row_same y r (e x))) ∙ before_at x xs i x s.0 (omega arith) in
      rw (turned x less) (ap (λ l. x ∷ l) (over xs i s.1 (omega arith) e))

  between : (rs : List Row) (i : ℕ) → i ≤ length rs → ((k : ℕ) (d : Row) → k < i → row_order (get_or rs k d) r ≡ Ordering.Less)
      → ((k : ℕ) (d : Row) → i ≤ k → k < length rs → row_order (get_or rs k d) r ≡ Ordering.Greater) → (insert_row r rs ≡ insert rs i r) × (any_row (same_slot r) rs ≡ false)
  unfolding insert_row any_row same_slot
  between [] zero m b a = (refl, refl)
  between [] (suc i) m b a = absurd (omega arith)
  between (x ∷ xs) zero m b a =
      let rest = between xs zero (omega arith) (λ k d h. absurd (omega arith)) (λ k d h g. a (suc k) d (omega arith) (omega arith)) in
      rw (turned x (a zero x (omega arith) (omega arith))) (refl, rest.1)
  between (x ∷ xs) (suc i) m b a =
      let rest = between xs i (omega arith) (λ k d h. b (suc k) d (omega arith)) (λ k d h g. a (suc k) d (omega arith) (omega arith)) in
      rw (turned x (b zero x (omega arith))) (ap (λ l. x ∷ l) rest.0, rest.1)

  -- where a search ends
  pub placed : (rs : List Row) → SortedRows rs → (p : Result ℕ ℕ) → IsSearchInRange p (length rs) → IsBinarySearchResult (λ y. row_order y r) rs p
      → IfOk p (StandsAt r rs) × IfErr p (GoesTo r rs)
  placed rs s (Ok i) m e =
      let stands : StandsAt r rs i = record {
        within = m;
        same = λ d. (same_slot_iff r (get_or rs i d)).1 (sym (row_same (get_or rs i d) r (e d)));
        puts = over rs i s m e;
      } in
      (stands, tt)
  placed rs s (Err i) m e =
      let split = e (rises rs s) in
      let there = between rs i m (λ k d h. split.0 k d (omega arith) h) (λ k d g h. split.1 k d g h) in
      let goes : GoesTo r rs i = record { within = m; absent = there.1; puts = there.0 } in
      (tt, goes)
