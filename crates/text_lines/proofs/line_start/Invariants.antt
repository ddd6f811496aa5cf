-- The invariant: the line that is looked for starts after `at` as far as that of the number less i does in the lines from there on.
use Prim.Native.Nat.{◌+◌, ◌-◌}
use mathlib.Core.Path.{◌≡◌}
use lib.ListN.{drop}
use Rattle.text_lines.specs.Lines.{line_start}
use Rattle.text_lines.proofs.line_start.Given as goal

abbrev pub invariant-loop : goal.invariant-loop
invariant-loop l = line_start l.text l.number ≡ l.at + line_start (drop l.at l.text) (l.number - l.counter)
