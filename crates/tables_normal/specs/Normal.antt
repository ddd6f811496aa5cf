-- Document 01, "Tables and replay": the normal form of a table text, and what the normaliser answers.
use Rattle.std.specs.Prelude.{ℕ, List, map, length, Ok}
use Rattle.basics.specs.Searches.{gather}
use Rattle.text_lines.specs.Lines.{unlines}
use Rattle.flow_table.specs.Switches.{Tables}
use Rattle.rows.specs.Rows.{row}
use Rattle.refusals.specs.Checks.{Checked, ◌▹◌, refuse_short}
use Rattle.tables_text.specs.TableText.{print_row, read_tables}
use Rattle.tables_normal.specs.Types.{Refusal, Row}

-- the text of rows: a line for each, ended by LF
unfoldable pub normal_text : List Row → List ℕ
normal_text rs = unlines (map print_row rs)

-- the normal text of the tables of the switches 0 to 15: switches rising, then table order, a line for each entry
unfoldable pub tables_text : Tables → List ℕ
tables_text ts = gather (λ w. unlines (map (λ e. print_row (row w e)) (ts w))) 16

-- the normal form of a table text, or the first refusal: 11 to 16; 32
unfoldable pub normalised : List ℕ → ℕ → Checked (List ℕ)
normalised tables room =
    read_tables tables ▹ λ rs.
    refuse_short room (normal_text rs) Refusal.TablesShort ▹ λ _.
    Ok (normal_text rs)

-- what is returned: the text's length, or the refusal
abbrev pub normal_answer : Checked (List ℕ) → Checked ℕ
normal_answer y = y ▹ λ text. Ok (length text)
