-- Rows found among rows: each of rows in order goes behind those before it; a search for a row that is found ends at its slot. Assumes
-- nothing.
use mathlib.Core.Path.{◌≡◌, refl, sym, ap, ◌∙◌}
use mathlib.Core.Bool.{true, true≢false}
use mathlib.Core.List.{List, [], ◌∷◌}
use Prim.Native.Nat.{ℕ, zero, suc, ◌<◌}
use native.Mathlib.Omega.{arith}
use lib.ListN.{length, get_or, take}
use Rattle.std.specs.Prelude.{Result, Ok, Err, IfOk, IfErr}
use Rattle.std.specs.Result.{result_unwrap_or}
use Rattle.flow.specs.Orders.{opposite}
use Rattle.rows.specs.Types.{Ordering}
use Rattle.rows.specs.Rows.{row_order, same_slot, RowBefore, SortedRows, insert_row, any_row}
use Rattle.rows.proofs.RowOrder.{row_turn}
use Rattle.rows.proofs.RowLaws.{before_at}
use Rattle.rows_search.specs.Inner.{StandsAt, GoesTo}
use Rattle.slots.specs.Inner.{mark_at}
use Rattle.slots_plan.specs.Types.{Row}
use Rattle.slots_plan.proofs.MaskLaws.{mark_at_lem}

-- ---- each of rows in order
after_first : (x : Row) (xs : List Row) (j : ℕ) (d : Row) → RowBefore x xs → j < length xs → row_order (get_or xs j d) x ≡ Ordering.Greater
after_first x xs j d b h = row_turn x (get_or xs j d) ∙ ap opposite (before_at x xs j d b h)

pub insert_next : (rs : List Row) (j : ℕ) (d : Row) → SortedRows rs → j < length rs → insert_row (get_or rs j d) (take j rs) ≡ take (suc j) rs
unfolding insert_row
insert_next [] j d s h = absurd (omega arith)
insert_next (x ∷ xs) zero d s h = refl
insert_next (x ∷ xs) (suc j) d s h = rw (after_first x xs j d s.0 (omega arith)) (ap (λ l. x ∷ l) (insert_next xs j d s.1 (omega arith)))

-- ---- a search that ends
pub slot_here : (r : Row) (rows : List Row) (p : Result ℕ ℕ) → IfOk p (StandsAt r rows) → IfErr p (GoesTo r rows) → any_row (same_slot r) rows ≡ true
    → mark_at (same_slot r) rows (result_unwrap_or p 0) ≡ true
slot_here r rows (Ok i) s g e = mark_at_lem (same_slot r) rows i r s.within ∙ s.same r
slot_here r rows (Err i) s g e = absurd (true≢false (sym e ∙ g.absent))
