-- The invariant: the lines of the first rows are put.
use Prim.Native.Nat.{◌≤◌, ◌*◌}
use lib.ListN.{take}
use Rattle.text_numbers.specs.Inner.{Put}
use Rattle.tables_normal.specs.Normal.{normal_text}
use Rattle.tables_normal.proofs.write.write_normal.Given as goal

abbrev pub invariant-loop-row : goal.invariant-loop-row
invariant-loop-row l = (l.at ≤ 277 * l.row-index) × Put (normal_text (take l.row-index l.row-items)) 0 l.initial.out l.at l.out
