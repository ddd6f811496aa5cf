-- The invariant: the rows so far and those of the lines that are left are those of the text.
use Rattle.std.proofs.Common.{◌≡◌, length}
use Rattle.text_lines.specs.Lines.{lines}
use Rattle.text_reader.proofs.Each.{Rest}
use Rattle.rows.specs.Rows.{rows_of}
use Rattle.tables_text.specs.TableText.{read_row_line}
use Rattle.tables_text.proofs.read.read_rows.Given as goal

abbrev pub invariant-loop-line : goal.invariant-loop-line
invariant-loop-line l =
    (l.rows.len ≡ length l.yielded) × (length l.rows.rows ≡ 512) × Rest read_row_line (lines l.text) (rows_of l.rows) (length l.yielded)
