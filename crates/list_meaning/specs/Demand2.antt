-- Demand 2 for the list, whole: what is said of an accepted trace text. (`list_exact`, proofs/Demand2.antt, says it of every one.)
use Rattle.std.specs.Prelude.{◌≡◌, List, ℕ, ◌+◌, ◌*◌, ◌≤◌, ◌<◌, length, Err}
use Rattle.basics.specs.Searches.{sum_below}
use Rattle.list_verdicts.specs.Kinds.{Kind, pairs, ordered, commuting, listed}
use Rattle.list_pairs.specs.List.{of_kind, list_of, count}
use Rattle.list_pairs.specs.Counting.{table_events, choose}
use Rattle.list_call.specs.Races.{list_races}
use Rattle.list_meaning.specs.Types.{Event, Refusal}
use Rattle.list_meaning.specs.Rising.{IsListOf}
use Rattle.list_meaning.specs.Calls.{WritesList}

pub record ListExact (delay : ℕ) (trace : List ℕ) (es : List Event) : Type 0 where
  -- the pairs of each kind are those that document 01 calls so, and no others, in rising order
  pub lists : (k : Kind) → IsListOf delay k es (of_kind delay k es (length es))
  -- n(n-1)/2 pairs for n table events of a switch, summed over the 16 switches
  pub all : count delay pairs es ≡ sum_below (λ w. choose (table_events es (length es) w)) 16
  pub sum : count delay pairs es ≡ count delay ordered es + count delay commuting es + count delay listed es
  -- the call returns how many there are of each kind and writes those listed; 31, the bytes needed, where the buffer is too short
  pub call : (old : List ℕ) → 2 * count delay listed es ≤ length old → WritesList delay trace es (list_of delay es) old
  pub short : (room : ℕ) → room < 2 * count delay listed es → list_races delay trace room ≡ Err (Refusal.ListShort (2 * count delay listed es))
