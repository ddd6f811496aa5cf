-- A switch and key twice: among the rows of the lines, and on the lines of the text (`twice_lines`). Assumes nothing.
use Prim.Native.Nat.{ℕ}
use mathlib.Core.List.{List}
use mathlib.Core.Logic.{◌↔◌}
use mathlib.Core.Path.{ap}
use Rattle.text_lines.specs.Lines.{lines}
use Rattle.rows_sort.proofs.SortLaws.{Twice}
use Rattle.tables_text.specs.Types.{Row}
use Rattle.tables_text.specs.TableText.{TwiceOn}
use Rattle.tables_text.proofs.Lines.{ReadAs, on_line_lem}

pub twice_lines : (s : List ℕ) (each : List Row) → ReadAs 0 (lines s) each → (k : ℕ) → Twice each k ↔ TwiceOn s k
twice_lines s each a k = (
  λ (j, x, y, h, p, q, e). (j, x, y, h, (on_line_lem 0 (lines s) each a j x).0 p, (on_line_lem 0 (lines s) each a k y).0 q, ap (λ z. z.switch) e, ap (λ z. z.key) e),
  λ (j, x, y, h, p, q, e, f). (j, x, y, h, (on_line_lem 0 (lines s) each a j x).1 p, (on_line_lem 0 (lines s) each a k y).1 q, λ i. record { switch = e i; key = f i }),
)
