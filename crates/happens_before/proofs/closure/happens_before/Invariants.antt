-- The outer invariant: the rows of the events below j are filled and their sides noted, `barred` tells whether one of them is a
-- barrier, and `earliest` is no later than the `to` of any that a switch handles. The inner: the set holds what happens before j by a last step from below k; no step leads to j from before the search.
use Prim.Native.Nat.{ℕ, ◌≤◌}
use mathlib.Core.Path.{◌≡◌}
use lib.ListN.{length}
use Rattle.bit_sets.specs.Inner.{member}
use Rattle.trace_events.specs.Events.{events_of}
use Rattle.basics.specs.Searches.{any_below}
use Rattle.happens_before.proofs.RowLaws.{Filled}
use Rattle.happens_before.proofs.SideNotes.{Noted}
use Rattle.happens_before.proofs.SearchStart.{Barred, Earliest}
use Rattle.happens_before.specs.Causality.{through}
use Rattle.happens_before.proofs.closure.happens_before.Given as goal

abbrev pub invariant-loop-k : goal.invariant-loop-k
invariant-loop-k l = (l.k ≤ l.j) × ((i : ℕ) → member l.set i ≡ any_below (through l.delay (events_of l.t) i l.j) l.k)

abbrev pub invariant-loop-j : goal.invariant-loop-j
invariant-loop-j l = record {
  events : length l.t.events ≡ 256;
  rows : length l.rows ≡ 256;
  filled : Filled l.delay (events_of l.t) l.j l.rows;
  sides : length l.sides ≡ 256;
  noted : Noted l.t l.j l.sides;
  barred : Barred l.t l.j l.barred;
  earliest : Earliest l.t l.j l.earliest;
}
