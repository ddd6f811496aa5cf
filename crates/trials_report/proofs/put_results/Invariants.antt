-- The invariant: what was written and the lines of the rest are the whole.
use Prim.Native.Nat.{ℕ, ◌+◌, ◌*◌, ◌-◌, ◌≤◌, ◌^◌}
use mathlib.Core.Path.{◌≡◌}
use mathlib.Core.List.{List, ◌++◌}
use lib.ListN.{length, drop}
use Rattle.text_numbers.specs.Inner.{Put}
use Rattle.trials_report.specs.Report.{result_lines}
use Rattle.trials_report.proofs.put_results.Given as goal

abbrev pub invariant-loop-i : goal.invariant-loop-i
invariant-loop-i l =
    (l.i ≤ length l.results) × (l.at ≤ 25 * l.i) × (l.first ≤ 2 ^ 21) × (length l.results ≤ 4096)
    × ((w : List ℕ) × Put w 0 l.initial.out l.at l.out × (w ++ result_lines (l.first + l.i) (drop l.i l.results) ≡ result_lines l.first l.results))
