-- Inner: the counts as the code keeps them, of each pair one verdict, and what it hands over.
use Rattle.std.specs.Prelude.{Bool, true, false, List, ◌≡◌, ℕ, ◌*◌, ◌≤◌, length, take}
use Rattle.call_answers.specs.Inner.{Small}
use Rattle.list_verdicts.specs.Kinds.{Kind, pairs, ordered, commuting, listed}
use Rattle.list_pairs.specs.Types.{Event, Counts, Verdict}
use Rattle.list_pairs.specs.List.{Listing, listing_of}

-- a verdict counts for a kind
abbrev pub counts : Kind → Verdict → Bool
counts pairs Verdict.Unpaired = false
counts pairs Verdict.Ordered = true
counts pairs Verdict.Commuting = true
counts pairs Verdict.Listed = true
counts ordered Verdict.Unpaired = false
counts ordered Verdict.Ordered = true
counts ordered Verdict.Commuting = false
counts ordered Verdict.Listed = false
counts commuting Verdict.Unpaired = false
counts commuting Verdict.Ordered = false
counts commuting Verdict.Commuting = true
counts commuting Verdict.Listed = false
counts listed Verdict.Unpaired = false
counts listed Verdict.Ordered = false
counts listed Verdict.Commuting = false
counts listed Verdict.Listed = true

-- the count of a kind
abbrev pub count_of : Kind → Counts → ℕ
count_of pairs c = c.pairs
count_of ordered c = c.ordered
count_of commuting c = c.commuting
count_of listed c = c.listed

-- the counts, and the list from the start of a buffer
abbrev pub as_listing : Counts → List ℕ → Listing
as_listing c bytes = record { counts = c; bytes = take (2 * c.listed) bytes }

-- the list of these events, of at most 32,640 pairs
pub record HoldsList (delay : ℕ) (es : List Event) (c : Counts) (bytes : List ℕ) : Type 0 where
  pub listing : as_listing c bytes ≡ listing_of delay es
  pub most : c.listed ≤ 32640
  pub within : 2 * c.listed ≤ length bytes
  pub small : Small c
