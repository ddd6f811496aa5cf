-- The outer invariant: from place p on the search finds what it finds from the start, and just the events of earlier places are placed.
-- The inner one: those of the first w words that must precede are placed.
use mathlib.Core.Path.{◌≡◌}
use Prim.Native.Nat.{◌≤◌}
use lib.ListN.{length, drop}
use Rattle.happens_before.specs.Inner.{bit}
use Rattle.std.specs.Prelude.{None}
use Rattle.order_check.specs.Schedule.{early_from}
use Rattle.order_check.proofs.SearchLaws.{PlacedBefore, HeldBelow}
use Rattle.order_check.proofs.search.first_early.Given as goal

abbrev pub invariant-loop-w : goal.invariant-loop-w
invariant-loop-w l = (l.w ≤ 4) × (l.early ≡ l.initial.early) × HeldBelow l.earlier l.placed l.w

abbrev pub invariant-search : goal.invariant-search
invariant-search l = (l.p ≤ length l.order) × (l.early ≡ None) × (early_from (bit l.rows) l.p (drop l.p l.order) ≡ early_from (bit l.rows) 0 l.order) × PlacedBefore l.order l.p l.placed
