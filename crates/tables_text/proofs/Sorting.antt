-- What a sort of rows answers, as two checks in turn: 16, at the lowest line whose switch and key stand on an earlier one; then the
-- rows in order. Assumes nothing.
use Prim.Native.Nat.{ℕ, zero, suc, ◌+◌, ◌<◌}
use mathlib.Core.List.{List, [], ◌∷◌}
use Rattle.std.specs.Prelude.{None, Some, Result, Ok, Err}
use mathlib.Core.Path.{◌≡◌, refl, sym, ap, ◌∙◌}
use native.Mathlib.Omega.{arith}
use lib.ListN.{length}
use Rattle.std.specs.List.{slice_get}
use Rattle.basics.proofs.Searches.{lowest_nowhere, lowest_at}
use Rattle.text_numbers.proofs.Readers.{nothing, on_cond}
use Rattle.text_reader.proofs.Each.{refuses}
use Rattle.rows.specs.Rows.{insert_row, any_row, same_slot}
use Rattle.rows_sort.specs.Sorting.{sort_from, sort_rows}
use Rattle.rows_sort.proofs.SortLaws.{sort_line, sort_rows_lem, stands_iff}
use Rattle.tables_text.specs.Types.{Refusal, Row}
use Rattle.tables_text.specs.TableText.{first_twice, placed, in_order}
use Rattle.tables_text.specs.Inner.{sorted_rows}

-- a place that holds an element lies in the list
pub held : {A : Type 0} (l : List A) (k : ℕ) (x : A) → slice_get l k ≡ Some x → k < length l
held [] k x e = nothing e
held (y ∷ l) zero x e = omega arith
held (y ∷ l) (suc k) x e = omega (arith, held l k x e)

sort_twice : (rs : List Row) (k : ℕ) → sort_rows rs ≡ Err k → first_twice rs ≡ Some k
sort_twice rs k e =
    let t = sort_line rs k e in
    let (i, x, y, h, p, q, s) = (stands_iff rs k).0 t.twice in
    lowest_at _ (length rs) k (held rs k y q) t.twice t.lowest

placed_as : (k : ℕ) (earlier rs qs : List Row) → sort_from k earlier rs ≡ Ok qs → placed earlier rs ≡ qs
unfolding sort_from placed
placed_as k earlier [] qs e = cc
placed_as k earlier (x ∷ rs) qs e =
    on_cond (any_row (same_slot x) earlier) (λ t p. cc) (λ t p. placed_as (k + 1) (insert_row x earlier) rs qs p) e

sort_none : (rs qs : List Row) → sort_rows rs ≡ Ok qs → first_twice rs ≡ None
sort_none rs qs e = lowest_nowhere _ (length rs) (λ j l. (sort_rows_lem rs qs e).once j)

sort_order : (rs qs : List Row) → sort_rows rs ≡ Ok qs → in_order rs ≡ qs
unfolding sort_rows
sort_order rs qs e = placed_as 0 [] rs qs e

-- the two checks, by what the sort answers
pub twice_checked : (rs : List Row) (k : ℕ) → sort_rows rs ≡ Err k → sorted_rows rs ≡ Err (Refusal.KeyTwice k)
twice_checked rs k e = rw (sort_twice rs k e)

pub order_checked : (rs qs : List Row) → sort_rows rs ≡ Ok qs → sorted_rows rs ≡ Ok qs
order_checked rs qs e = rw (sort_none rs qs e, sort_order rs qs e)

-- and what the sort answers, by the checks
pub checked_order : (rs qs : List Row) → sorted_rows rs ≡ Ok qs → sort_rows rs ≡ Ok qs
checked_order rs qs e = go (sort_rows rs) refl
  where
    go : (x : Result (List Row) ℕ) → sort_rows rs ≡ x → sort_rows rs ≡ Ok qs
    go (Err j) p = refuses (sym (twice_checked rs j p) ∙ e)
    go (Ok os) p = let q : Ok os ≡ Ok qs = sym (order_checked rs os p) ∙ e in let h : os ≡ qs = cc in p ∙ ap Ok h
