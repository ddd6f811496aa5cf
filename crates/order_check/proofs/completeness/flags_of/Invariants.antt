-- The invariant: what is flagged, or stands in the rest of the order, is what stands in the order.
use Prim.Native.Nat.{ℕ, ◌<◌}
use mathlib.Core.Path.{◌≡◌}
use mathlib.Core.Bool.{false, ◌||◌}
use lib.ListN.{length, get_or, drop}
use Rattle.basics.specs.Searches.{has}
use Rattle.order_check.proofs.completeness.flags_of.Given as goal

abbrev pub invariant-loop-event : goal.invariant-loop-event
invariant-loop-event l = (length l.flags ≡ 256) × ((i : ℕ) → i < 256 → (get_or l.flags i false || has i (drop l.event-index l.order)) ≡ has i l.order)
