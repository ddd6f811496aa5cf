-- Document 01, "The share", whole: what is said of an accepted trace text. (`share_exact`, proofs/Theorems.antt, says it of every
-- one.)
use Rattle.std.specs.Prelude.{◌≡◌, List, ◌↔◌, ℕ, ◌+◌, ◌-◌, ◌*◌, ◌<◌, Ok}
use Rattle.list_verdicts.specs.Kinds.{pairs, ordered, commuting}
use Rattle.list_pairs.specs.List.{count}
use Rattle.list_call.specs.Races.{list_races, list_answer}
use Rattle.list_meaning.specs.Meaning.{OneTable, Ordered}
use Rattle.share.specs.Meaning.{IsShare}
use Rattle.share_call.specs.Shared.{shared}
use Rattle.share_meaning.specs.Types.{Event, Counts, Share}

-- two table events of one switch, neither of which happens before the other
abbrev pub Unordered : ℕ → List Event → ℕ → ℕ → Type 0
Unordered delay es i j = OneTable es i j × (Ordered delay es i j → ⊥)

pub record ShareExact (delay : ℕ) (trace : List ℕ) (es : List Event) : Type 0 where
  pub share : Share
  pub returned : shared delay trace ≡ Ok share
  -- 1,000 times the commuting pairs are given back
  pub product : share.quotient * share.divisor + share.remainder ≡ 1000 * count delay commuting es
  pub below : 0 < share.divisor → share.remainder < share.divisor
  -- the pairs that are not ordered
  pub divisor : share.divisor ≡ count delay pairs es - count delay ordered es
  -- 0 exactly if no pair is unordered, and then all are 0
  pub none : (share.divisor ≡ 0) ↔ ((i j : ℕ) → Unordered delay es i j → ⊥)
  pub zeros : share.divisor ≡ 0 → (share.quotient ≡ 0) × (share.remainder ≡ 0)
  -- the counts are those that the list call returns, whatever its buffer
  pub list : (room : ℕ) (c : Counts) → list_answer (list_races delay trace room) ≡ Ok c → IsShare c share
