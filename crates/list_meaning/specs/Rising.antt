-- Document 01, "The list": rising order, by the lower event and then by the higher; so a pair stands in a list once.
use Rattle.std.specs.Prelude.{◌≡◌, ◌↔◌, ◌⊎◌, ℕ, ◌<◌}
use mathlib.Core.List.{List, [], ◌∷◌, Memᴰ}
use Rattle.list_verdicts.specs.Kinds.{Kind}
use Rattle.list_pairs.specs.List.{Pair}
use Rattle.list_meaning.specs.Types.{Event}
use Rattle.list_meaning.specs.Meaning.{OfKind}

-- the lower event is lower, or it is the same and the higher event is lower
abbrev pub Below : Pair → Pair → Type 0
Below p q = (p.lower < q.lower) ⊎ ((p.lower ≡ q.lower) × (p.higher < q.higher))

-- each pair is below all that come after it
abbrev pub RisingPairs : List Pair → Type 0
RisingPairs [] = Unit {0}
RisingPairs (p ∷ ps) = ((q : Pair) → Memᴰ q ps → Below p q) × RisingPairs ps

-- THE list of the pairs of a kind: these pairs and no others, in rising order. (`one_list`, proofs/Order.antt: there is one such list.)
pub record IsListOf (delay : ℕ) (k : Kind) (es : List Event) (ps : List Pair) : Type 0 where
  pub exact : (i j : ℕ) → Memᴰ (record { lower = i; higher = j }) ps ↔ OfKind delay k es i j
  pub rising : RisingPairs ps
