-- The invariant: what was written and the lines of the rest are the whole.
use Prim.Native.Nat.{ℕ, ◌+◌, ◌*◌, ◌≤◌}
use mathlib.Core.Path.{◌≡◌}
use mathlib.Core.List.{List, ◌++◌}
use lib.ListN.{length}
use Rattle.text_numbers.specs.Inner.{Put}
use Rattle.list_report.specs.Report.{race_lines}
use Rattle.list_report.proofs.printing.put_races.Given as goal

abbrev pub invariant-loop-left : goal.invariant-loop-left
invariant-loop-left l =
    (l.at + 37 * length l.left ≤ 37 * length l.list) × (length l.list ≤ 131072)
    × ((w : List ℕ) × Put w 0 l.initial.out l.at l.out × (w ++ race_lines l.left ≡ race_lines l.list))

abbrev pub decreases-loop-left : goal.decreases-loop-left
decreases-loop-left l = length l.left
