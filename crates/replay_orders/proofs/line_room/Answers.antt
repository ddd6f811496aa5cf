use Prim.Native.Nat.{ℕ}
use mathlib.Core.Path.{sym}
use lib.ListN.{length-replicate}
use Rattle.replay_orders.proofs.line_room.Goals as goal

pub returns : goal.returns
returns c = sym (length-replicate {A = ℕ} 102400 0)
