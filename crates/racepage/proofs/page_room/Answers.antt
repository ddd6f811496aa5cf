use Prim.Native.Nat.{ℕ}
use mathlib.Core.Path.{refl}
use lib.ListN.{length-replicate}
use Rattle.basics.specs.Text.{zeros}
use Rattle.racepage.proofs.page_room.Goals as goal

pub returns : goal.returns
unfolding zeros
returns c = (refl, length-replicate {A = ℕ} 1991284 0)
