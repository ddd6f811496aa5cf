use Prim.Native.Nat.{ℕ}
use mathlib.Core.Path.{refl}
use lib.ListN.{length-replicate}
use Rattle.basics.specs.Text.{zeros}
use Rattle.list_pairs.proofs.listing.pair_room.Goals as goal

pub returns : goal.returns
unfolding zeros
returns c = (refl, length-replicate {A = ℕ} 131072 0)
