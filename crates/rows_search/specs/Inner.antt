-- Inner: the place of a row among rows in order.
use Rattle.std.specs.Prelude.{◌≡◌, true, false, List, ℕ, ◌<◌, ◌≤◌, length, get_or, set}
use Rattle.std.specs.List.{insert}
use Rattle.rows.specs.declared.row.Row.{Row}
use Rattle.rows.specs.Rows.{same_slot, insert_row, any_row}

-- the row at index i has r's switch and key: r is put over it
pub record StandsAt (r : Row) (rows : List Row) (i : ℕ) : Type 0 where
  pub within : i < length rows
  pub same : (d : Row) → same_slot r (get_or rows i d) ≡ true
  pub puts : insert_row r rows ≡ set rows i r

-- no row has them: r is put in at index i
pub record GoesTo (r : Row) (rows : List Row) (i : ℕ) : Type 0 where
  pub within : i ≤ length rows
  pub absent : any_row (same_slot r) rows ≡ false
  pub puts : insert_row r rows ≡ insert rows i r
