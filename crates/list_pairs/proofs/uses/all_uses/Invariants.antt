-- The invariant: the array has what the events before k are to the list.
use Prim.Native.Nat.{ℕ, ◌-◌, ◌≤◌, ◌<◌}
use mathlib.Core.Path.{◌≡◌}
use lib.ListN.{length, get_or}
use Rattle.flow_table.specs.FlowTable.{effect_of}
use Rattle.commuting.specs.InnerFootprints.{NarrowEffect}
use Rattle.trace_events.specs.Events.{events_of, event_at}
use Rattle.list_verdicts.specs.Inner.{no_use, table_use}
use Rattle.list_pairs.proofs.uses.all_uses.Given as goal

abbrev pub invariant-loop-k : goal.invariant-loop-k
invariant-loop-k l =
    (l.k ≤ l.n) × (length l.t.events ≡ 256) × (length l.all ≡ 256) × ((i : ℕ) → i < l.k → get_or l.all i no_use ≡ table_use (event_at (events_of l.t) i).operation)
    × ((i : ℕ) → i < l.k → NarrowEffect (effect_of (event_at (events_of l.t) i).operation))

abbrev pub decreases-loop-k : goal.decreases-loop-k
decreases-loop-k l = l.n - l.k
