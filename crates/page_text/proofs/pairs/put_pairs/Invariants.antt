-- The invariant: what was written and the lines of the rest are the whole.
use Prim.Native.Nat.{ℕ, ◌+◌, ◌*◌, ◌<◌, ◌≤◌}
use mathlib.Core.Path.{◌≡◌}
use mathlib.Core.List.{List, ◌++◌}
use lib.ListN.{length, get_or}
use Rattle.text_numbers.specs.Inner.{Put}
use Rattle.trace_events.specs.Events.{events_of, event_at}
use Rattle.trace_line.specs.Written.{EventInRange}
use Rattle.list_pairs.specs.List.{each_pair}
use Rattle.page_text.specs.Types.{Trace}
use Rattle.page_text.specs.Inner.{line_of_pair}
use Rattle.page_text.proofs.pairs.put_pairs.Given as goal

-- each byte of the rest is an event of the trace, and these are in range
pub record Inside (t : Trace) (left : List ℕ) : Type 0 where
  pub few : t.len ≤ 256
  pub room : length t.events ≡ 256
  pub inside : (k : ℕ) → k < length left → get_or left k 0 < t.len
  pub in_range : (i : ℕ) → EventInRange (event_at (events_of t) i)

abbrev pub invariant-loop-left : goal.invariant-loop-left
invariant-loop-left l =
    (l.at + 31 * length l.left ≤ 31 * length l.list) × (length l.list ≤ 131072) × Inside l.t l.left
    × ((w : List ℕ) × Put w 0 l.initial.out l.at l.out × (w ++ each_pair (line_of_pair (events_of l.t)) l.left ≡ each_pair (line_of_pair (events_of l.t)) l.list))

abbrev pub decreases-loop-left : goal.decreases-loop-left
decreases-loop-left l = length l.left
