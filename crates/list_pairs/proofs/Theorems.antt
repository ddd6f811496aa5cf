-- Which pairs the list holds, by the test that the whole-order theorem speaks of (`list_members`). Assumes nothing.
use Prim.Native.Nat.{ℕ, ◌<◌}
use mathlib.Core.Path.{◌≡◌}
use mathlib.Core.Logic.{◌↔◌}
use mathlib.Core.Bool.{true}
use mathlib.Core.List.{List, Memᴰ}
use lib.ListN.{length}
use Rattle.list_verdicts.specs.Kinds.{is_kind, listed}
use Rattle.trace_events.specs.Events.{event_at}
use Rattle.happens_before.specs.Causality.{before}
use Rattle.list_pairs.specs.Types.{Event}
use Rattle.list_pairs.specs.List.{test, list_of}
use Rattle.list_pairs.proofs.Members.{pairs_in}

-- a pair stands in the list exactly if the test says that its events are listed
pub list_members : (delay : ℕ) (es : List Event) (i j : ℕ)
    → Memᴰ (record { lower = i; higher = j }) (list_of delay es)
    ↔ ((i < j) × (j < length es) × (is_kind listed (event_at es i).operation (event_at es j).operation (before delay es i j) ≡ true))
unfolding test
list_members delay es i j = pairs_in (test delay listed es) (length es) i j
