-- The invariant: n of the LF stand before the byte that the loop has come to.
use Prim.Native.Nat.{◌≤◌, ◌+◌}
use mathlib.Core.Path.{◌≡◌}
use lib.ListN.{drop}
use Rattle.text_lines.specs.Inner.{newlines}
use Rattle.text_lines.proofs.count_lines.Given as goal

abbrev pub invariant-loop-b : goal.invariant-loop-b
invariant-loop-b l = (l.n ≤ l.b-index) × (newlines l.s ≡ l.n + newlines (drop l.b-index l.s))
