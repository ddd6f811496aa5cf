-- The invariant: of the lines from i on the code keeps what the time rule asks of them, and has their outcome.
use Prim.Native.Nat.{◌≤◌}
use mathlib.Core.Path.{◌≡◌}
use lib.ListN.{length}
use Rattle.trace_events.specs.Events.{events_of}
use Rattle.trace_clocks.specs.Backward.{backward}
use Rattle.trace_clocks.proofs.PassLaws.{Kept, Passed}
use Rattle.trace_clocks.proofs.clocks.check_clocks.Given as goal

abbrev pub invariant-loop-i : goal.invariant-loop-i
invariant-loop-i l =
    (l.i ≤ l.t.len)
    × (length l.t.events ≡ 256)
    × Kept l.delay (events_of l.t) l.i l.later
    × Passed (backward l.delay (events_of l.t)) (length (events_of l.t)) l.i l.outcome
