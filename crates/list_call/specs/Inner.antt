-- Inner: what parts of the code answer.
use Rattle.std.specs.Prelude.{List, ◌≡◌, ℕ, Ok}
use Rattle.refusals.specs.Checks.{Checked, ◌▹◌, refuse_short, written}
use Rattle.list_pairs.specs.List.{list_of, pair_bytes, Listing, listing_of}
use Rattle.list_call.specs.Types.{Event, Counts, Refusal}
use Rattle.list_call.specs.Races.{list_answer, list_out}

-- 31, of the events of an accepted trace
unfoldable pub fitted : ℕ → List Event → ℕ → Checked Listing
fitted delay es room =
    refuse_short room (pair_bytes (list_of delay es)) Refusal.ListShort ▹ λ _.
    Ok (listing_of delay es)

-- an answer and a buffer, before and after, are as the list call leaves them
pub record Lists (y : Checked Listing) (r : Checked Counts) (old new : List ℕ) : Type 0 where
  pub answer : r ≡ list_answer y
  pub buffer : new ≡ written (list_out y) old
