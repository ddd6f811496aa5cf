-- Inner: what the functions of this crate work with.
use Rattle.std.specs.Prelude.{ℕ, ◌≤◌, ◌≡◌, Ok}
use mathlib.Core.List.{List, Memᴰ}
use Rattle.refusals.specs.Checks.{Checked, ◌▹◌, refuse_short}
use Rattle.tables_text.specs.TableText.{RowInRange}
use Rattle.tables_normal.specs.Types.{Refusal, Row}
use Rattle.tables_normal.specs.Normal.{normal_text}

-- 32; then the text of the rows
abbrev pub fitting_text : ℕ → List Row → Checked (List ℕ)
fitting_text room rs = refuse_short room (normal_text rs) Refusal.TablesShort ▹ λ _. Ok (normal_text rs)

-- every row is in range, as those of an accepted text are
abbrev pub RowsInRange : List Row → Type 0
RowsInRange rs = (r : Row) → Memᴰ r rs → RowInRange r
