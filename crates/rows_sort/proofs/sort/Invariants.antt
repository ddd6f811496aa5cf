-- The first i rows are in order, and with them the rest, which are still the lines' own, sorts as all lines do.
use mathlib.Core.Path.{◌≡◌}
use Prim.Native.Nat.{◌-◌, ◌≤◌}
use lib.ListN.{take, drop, length}
use Rattle.rows.specs.Rows.{SortedRows}
use Rattle.rows_sort.specs.Sorting.{sort_from, sort_rows}
use Rattle.rows_sort.proofs.sort.Given as goal

abbrev pub invariant-loop-i : goal.invariant-loop-i
invariant-loop-i l =
    (l.i ≤ l.lines.len)
    × (length l.rows ≡ 512)
    × SortedRows (take l.i l.rows)
    × (sort_from l.i (take l.i l.rows) (drop l.i (take l.lines.len l.rows)) ≡ sort_rows (take l.lines.len l.initial.rows))

abbrev pub decreases-loop-i : goal.decreases-loop-i
decreases-loop-i l = l.lines.len - l.i
