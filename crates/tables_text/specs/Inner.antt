-- Inner: what the functions of this crate answer, and the later checks of a table text by themselves.
use Rattle.std.specs.Prelude.{◌≤◌, List, ℕ, ◌≡◌, Ok, IfOk}
use Rattle.text_lines.specs.Lines.{lines}
use Rattle.text_reader.specs.Each.{read_each}
use Rattle.refusals.specs.Checks.{Checked, ◌▹◌, refuse_at}
use Rattle.rows.specs.Rows.{rows_of}
use Rattle.tables_text.specs.Types.{Refusal, Row, Rows}
use Rattle.tables_text.specs.TableText.{read_row_line, first_twice, in_order}

-- 16; then the rows in order
abbrev pub sorted_rows : List Row → Checked (List Row)
sorted_rows rs = refuse_at (first_twice rs) Refusal.KeyTwice ▹ λ _. Ok (in_order rs)

-- 14, 15 line by line
abbrev pub read_rows : List ℕ → Checked (List Row)
read_rows s = read_each read_row_line 0 (lines s)

-- the rows that the code answers, or what is refused
abbrev pub as_tables : Checked Rows → Checked (List Row)
as_tables r = r ▹ λ t. Ok (rows_of t)

-- and with it how many they are
pub record TablesOf (x : Checked (List Row)) (r : Checked Rows) : Type 0 where
  pub answer : as_tables r ≡ x
  pub few : IfOk r (λ t. t.len ≤ 256)
