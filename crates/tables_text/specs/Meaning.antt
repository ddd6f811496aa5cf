-- Document 01, "Tables and replay" and refusals 11 to 16, in words: which table texts are accepted, and as which rows. (`tables_accepted_iff`,
-- proofs/Meaning.antt, says that these are read, and no others.)
use Rattle.std.specs.Prelude.{ℕ, ◌≤◌, ◌<◌, true, ◌↔◌, ◌≡◌, length, Some}
use mathlib.Core.List.{List, map, Memᴰ}
use Rattle.std.specs.List.{slice_get}
use Rattle.text_lines.specs.Lines.{lines, ends_with_lf}
use Rattle.rows.specs.Rows.{SortedRows}
use Rattle.tables_text.specs.Types.{Row}
use Rattle.tables_text.specs.TableText.{print_row, RowInRange}

-- a text within the limits whose lines are those of rows in range, with no switch and key twice; and just these rows in order
pub record IsTables (s : List ℕ) (rs : List Row) : Type 0 where
  -- the rows as the lines come
  pub each : List Row
  pub bytes : length s ≤ 65535
  pub ended : ends_with_lf s ≡ true
  pub few : length each ≤ 256
  pub printed : lines s ≡ map print_row each
  pub in_range : (r : Row) → Memᴰ r each → RowInRange r
  pub once : (i j : ℕ) (x y : Row) → i < j → slice_get each i ≡ Some x → slice_get each j ≡ Some y → x.switch ≡ y.switch → x.entry.key ≡ y.entry.key → ⊥
  -- switches rising, then table order
  pub sorted : SortedRows rs
  pub same : (r : Row) → Memᴰ r rs ↔ Memᴰ r each
