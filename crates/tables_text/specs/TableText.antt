-- Document 01, "Tables and replay" and "Refusal table": a table text, and what is read from it. That `read_row` reads the texts of
-- `print_row` and no others is proved in proofs/RowFormat.antt.
use Rattle.std.specs.Prelude.{ℕ, ◌<◌, cond, not, List, [], ◌∷◌, ◌++◌, ◌↔◌, ◌≡◌, eqb, length, Option, None, Some, Ok}
use Rattle.std.specs.List.{slice_get}
use Rattle.basics.specs.Text.{bytes}
use Rattle.basics.specs.Searches.{lowest}
use Rattle.text_lines.specs.Lines.{lines}
use Rattle.text_lines.specs.Limits.{limit_of}
use Rattle.text_reader.specs.Each.{read_each}
use Rattle.text_numbers.specs.Reading.{Reader, mapped, keyed, both}
use Rattle.text_numbers.specs.Number.{read_number}
use Rattle.text_numbers.specs.Print.{print_number}
use Rattle.flow.specs.Entries.{EntryInRange}
use Rattle.refusals.specs.Checks.{Checked, ◌▹◌, refuse_none, refuse_if, refuse_at, refuse_limit}
use Rattle.text_fields.specs.Print.{print_entry}
use Rattle.text_fields.specs.Read.{read_entry}
use Rattle.text_fields.specs.Written.{EntryWritten, clear_entry}
use Rattle.rows.specs.Rows.{row, insert_row}
use Rattle.rows_sort.specs.Sorting.{stands_earlier}
use Rattle.tables_text.specs.Types.{Refusal, Row}

-- the text of a line: switch, then entry
unfoldable pub print_row : Row → List ℕ
print_row r = (bytes "sw=" ++ print_number r.switch) ++ print_entry r.entry

-- a switch of 0 to 15, then an entry
unfoldable pub row_reader : Reader Row
row_reader = mapped (λ (w, e). row w e) (both (keyed (bytes "sw=") (read_number 15)) read_entry)

-- a row that takes all n bytes of its line
abbrev pub whole_row : ℕ → Option (Row × ℕ) → Option Row
whole_row n None = None
whole_row n (Some r) = cond (eqb r.1 n) (Some r.0) None

-- the row of a whole line, without its LF
unfoldable pub read_row : List ℕ → Option Row
read_row l = whole_row (length l) (row_reader l 0)

-- what a line can say; an address bit may stand past its prefix
pub record RowWritten (r : Row) : Type 0 where
  pub switch : r.switch < 16
  pub entry : EntryWritten r.entry

-- what an accepted line says: switch 0 to 15, and an entry in range
pub record RowInRange (r : Row) : Type 0 where
  pub switch : r.switch < 16
  pub entry : EntryInRange r.entry

-- line k: 14 where it is malformed, 15 where an address bit stands past its prefix; else its row
unfoldable pub read_row_line : ℕ → List ℕ → Checked Row
read_row_line k l =
    refuse_none (read_row l) (Refusal.TablesMalformed k) ▹ λ r.
    refuse_if (not (clear_entry r.entry)) (Refusal.TablesAddressBit k) ▹ λ _.
    Ok r

-- ---- a text
-- the lowest line whose switch and key stand on an earlier one
abbrev pub first_twice : List Row → Option ℕ
first_twice rs = lowest (stands_earlier rs) (length rs)

-- rows put one after the other at their places, switches rising, then table order
unfoldable pub placed : List Row → List Row → List Row
placed earlier [] = earlier
placed earlier (r ∷ rs) = placed (insert_row r earlier) rs

abbrev pub in_order : List Row → List Row
in_order rs = placed [] rs

-- the rows of a table text, in order, or the first refusal: 11, 12, 13; on each line 14, 15; 16
unfoldable pub read_tables : List ℕ → Checked (List Row)
read_tables s =
    refuse_limit (limit_of s) Refusal.TablesTooLong Refusal.TablesUnended Refusal.TablesTooManyLines ▹ λ _.
    read_each read_row_line 0 (lines s) ▹ λ rs.
    refuse_at (first_twice rs) Refusal.KeyTwice ▹ λ _.
    Ok (in_order rs)

-- ---- what two texts hold
-- the row stands on line k
abbrev pub OnLine : List ℕ → ℕ → Row → Type 0
OnLine s k r = (l : List ℕ) × (slice_get (lines s) k ≡ Some l) × (read_row l ≡ Some r)

-- the row stands on a line of the text
abbrev pub Holds : List ℕ → Row → Type 0
Holds s r = (k : ℕ) × OnLine s k r

-- the texts hold the same entries on the same switches
abbrev pub HoldSame : List ℕ → List ℕ → Type 0
HoldSame s t = (r : Row) → Holds s r ↔ Holds t r

-- the switch and key of line k stand on an earlier line
abbrev pub TwiceOn : List ℕ → ℕ → Type 0
TwiceOn s k = (j : ℕ) × (x : Row) × (y : Row) × (j < k) × OnLine s j x × OnLine s k y × (x.switch ≡ y.switch) × (x.entry.key ≡ y.entry.key)

-- line k is the lowest such line
abbrev pub LowestOn : List ℕ → ℕ → Type 0
LowestOn s k = TwiceOn s k × ((j : ℕ) → j < k → TwiceOn s j → ⊥)
