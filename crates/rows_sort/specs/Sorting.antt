-- Document 01, "Tables and replay": the rows of a table text's lines put in order.
use Rattle.std.specs.Prelude.{◌≡◌, Bool, true, false, cond, ◌⊎◌, List, [], ◌∷◌, ℕ, ◌+◌, take, Option, None, Some, Result, Ok, Err}
use Rattle.std.proofs.Common.{inl, inr}
use Rattle.std.proofs.Math.ListN.{get_elem?}
use Rattle.std.specs.List.{slice_get}
use Rattle.rows.specs.declared.row.Row.{Row}
use Rattle.rows.specs.declared.row.Rows.{Rows}
use Rattle.rows.specs.Rows.{rows_of, same_slot, insert_row, any_row}

-- line k has a row whose switch and key stand on an earlier line
abbrev pub stands_in : List Row → Option Row → Bool
stands_in rs None = false
stands_in rs (Some x) = any_row (same_slot x) rs

unfoldable pub stands_earlier : List Row → ℕ → Bool
stands_earlier lines k = stands_in (take k lines) (slice_get lines k)

-- the rows of the lines from k on, put in order among those of the earlier lines; or the first of those lines whose switch and key
-- are there already
unfoldable pub sort_from : ℕ → List Row → List Row → Result (List Row) ℕ
sort_from k earlier [] = Ok earlier
sort_from k earlier (x ∷ xs) = cond (any_row (same_slot x) earlier) (Err k) (sort_from (k + 1) (insert_row x earlier) xs)

unfoldable pub sort_rows : List Row → Result (List Row) ℕ
sort_rows lines = sort_from 0 [] lines

-- what `sort` hands back: the rows in order, or the line
abbrev pub Sorts : Result Rows ℕ → Result (List Row) ℕ → Type 0
Sorts (Ok rows) s = s ≡ Ok (rows_of rows)
Sorts (Err line) s = s ≡ Err line
