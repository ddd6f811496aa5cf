-- Document 01, "Refusal table", 11 to 16: when each refusal of a table text applies.
use mathlib.Core.List.{List, [], ◌∷◌, ◌++◌, map, Memᴰ}
use Rattle.std.specs.Prelude.{◌≡◌, ℕ}
use Rattle.text_lines.specs.Lines.{lines}
use Rattle.tables_text.specs.TableText.{print_row, RowWritten, RowInRange, LowestOn}
use Rattle.refusals_order.specs.Types.{Refusal, Row}
use Rattle.refusals_order.specs.Causes.{Cause, When, line_by_line}
use Rattle.refusals_order.specs.Texts.{limit_causes, BitInMatch}

-- ---- a line
-- it is the line of row x, each value in its range
abbrev pub IsRowLine : List ℕ → Row → Type 0
IsRowLine l x = RowWritten x × (l ≡ print_row x)

-- 14: it is the line of no row
abbrev pub RowMalformed : List ℕ → Type 0
RowMalformed l = (x : Row) → IsRowLine l x → ⊥

-- 15: its row has an address bit past a prefix
abbrev pub RowBit : List ℕ → Type 0
RowBit l = (x : Row) × IsRowLine l x × BitInMatch x.entry.key.pattern

abbrev pub row_causes : ℕ → List ℕ → List Cause
row_causes k l =
    When (RowMalformed l) (Refusal.TablesMalformed k)
    ∷ When (RowBit l) (Refusal.TablesAddressBit k)
    ∷ []

-- ---- the keys
-- the lines are those of the rows, none of which is refused
abbrev pub RowLinesOf : List ℕ → List Row → Type 0
RowLinesOf s rs = (lines s ≡ map print_row rs) × ((x : Row) → Memᴰ x rs → RowInRange x)

-- 16: the lowest line whose switch and key stand on an earlier one
abbrev pub key_cause : List ℕ → Cause
key_cause s r = (k : ℕ) × LowestOn s k × (r ≡ Refusal.KeyTwice k)

-- ---- the text: 11 to 16 the same way as 1 to 8
unfoldable pub tables_causes : List ℕ → List Cause
tables_causes s =
    limit_causes s Refusal.TablesTooLong Refusal.TablesUnended Refusal.TablesTooManyLines
    ++ (line_by_line row_causes 0 (lines s)
    ++ (key_cause s
    ∷ []))
