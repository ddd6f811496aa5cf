-- The outer invariant: the counts and the list have the pairs whose lower event is below i. The inner: and those of i and the events below j.
use Prim.Native.Nat.{◌+◌, ◌*◌, ◌<◌, ◌≤◌}
use mathlib.Core.Path.{◌≡◌}
use lib.ListN.{length}
use lib.Seq.{sets}
use Rattle.trace_events.specs.Events.{events_of}
use Rattle.list_pairs.specs.List.{pair_bytes}
use Rattle.list_verdicts.specs.Kinds.{listed, Kind}
use Rattle.list_pairs.specs.Inner.{count_of}
use Rattle.list_pairs.proofs.PairLaws.{pairs_of, rows_below}
use Rattle.list_pairs.proofs.pass.scan.Given as goal

abbrev pub invariant-loop-j : goal.invariant-loop-j
invariant-loop-j l =
    (l.i < l.j)
    × (l.j ≤ l.t.len)
    × ((k : Kind) → count_of k l.sum ≡ count_of k l.initial.sum + length (pairs_of l.delay k (events_of l.t) l.i l.j))
    × (l.list ≡ sets l.initial.list (2 * l.initial.sum.listed) (pair_bytes (pairs_of l.delay listed (events_of l.t) l.i l.j)))

abbrev pub invariant-loop-i : goal.invariant-loop-i
invariant-loop-i l =
    (l.i ≤ l.t.len)
    × (length l.t.events ≡ 256)
    × ((k : Kind) → count_of k l.sum ≡ length (rows_below l.delay k (events_of l.t) l.t.len l.i))
    × (l.list ≡ sets l.initial.list 0 (pair_bytes (rows_below l.delay listed (events_of l.t) l.t.len l.i)))
    × (length l.uses ≡ 256)
