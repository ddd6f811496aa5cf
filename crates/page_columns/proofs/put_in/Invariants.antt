-- The invariant: the first i columns are put.
use Prim.Native.Nat.{◌+◌}
use mathlib.Core.List.{map}
use lib.ListN.{take}
use Rattle.text_numbers.specs.Inner.{Put}
use Rattle.page_columns.specs.Inner.{digit_or_blank}
use Rattle.page_columns.proofs.put_in.Given as goal

abbrev pub invariant-loop-i : goal.invariant-loop-i
invariant-loop-i g l = Put (map (digit_or_blank l.v) (take l.i l.power-items)) l.at l.initial.out (l.at + l.i) l.out
