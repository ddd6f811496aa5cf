-- Document 01, "The list": the pairs of events and which of them are ordered, commuting or listed; the four counts, each of its own
-- filter; the bytes of the list.
use Rattle.std.specs.Prelude.{Bool, ◌&&◌, List, [], ◌∷◌, ◌++◌, ℕ, ltb, length}
use Rattle.basics.specs.Searches.{only, gather}
use Rattle.list_verdicts.specs.Kinds.{Kind, listed, pairs, is_kind, ordered, commuting}
use Rattle.trace_events.specs.Events.{event_at}
use Rattle.happens_before.specs.Causality.{before}
use Rattle.list_pairs.specs.Types.{Event, Counts}

-- the events of lines i and j, i the lower, are of a kind; the higher never happens before the lower
unfoldable pub test : ℕ → Kind → List Event → ℕ → ℕ → Bool
test delay k es i j = is_kind k (event_at es i).operation (event_at es j).operation (before delay es i j)

-- two events, the lower first
pub record Pair : Type 0 where
  pub lower : ℕ
  pub higher : ℕ

-- the pair of i and j, where i is the lower and p holds
abbrev pub cell : (ℕ → ℕ → Bool) → ℕ → ℕ → List Pair
cell p i j = only (ltb i j && p i j) (record { lower = i; higher = j })

-- all pairs of numbers below n of which p holds, in rising order
unfoldable pub pairs_where : (ℕ → ℕ → Bool) → ℕ → List Pair
pairs_where p n = gather (λ i. gather (cell p i) n) n

-- the pairs of a kind among the first n events
abbrev pub of_kind : ℕ → Kind → List Event → ℕ → List Pair
of_kind delay k es n = pairs_where (test delay k es) n

-- the list of a trace
abbrev pub list_of : ℕ → List Event → List Pair
list_of delay es = of_kind delay listed es (length es)

-- a pair is two bytes: lower event, higher event
abbrev pub pair_bytes : List Pair → List ℕ
pair_bytes [] = []
pair_bytes (p ∷ ps) = p.lower ∷ p.higher ∷ pair_bytes ps

-- a text for each pair of a list, two bytes a pair, one behind another
abbrev pub each_pair : (ℕ → ℕ → List ℕ) → List ℕ → List ℕ
each_pair text [] = []
each_pair text (i ∷ []) = []
each_pair text (i ∷ j ∷ list) = text i j ++ each_pair text list

-- the number of pairs of a kind
abbrev pub count : ℕ → Kind → List Event → ℕ
count delay k es = length (of_kind delay k es (length es))

-- the four counts
unfoldable pub counts_of : ℕ → List Event → Counts
counts_of delay es = record { pairs = count delay pairs es; ordered = count delay ordered es; commuting = count delay commuting es; listed = count delay listed es }

-- what the list call hands over of a trace's events: the four counts, and the bytes of the list
pub record Listing : Type 0 where
  pub counts : Counts
  pub bytes : List ℕ

unfoldable pub listing_of : ℕ → List Event → Listing
listing_of delay es = record { counts = counts_of delay es; bytes = pair_bytes (list_of delay es) }
