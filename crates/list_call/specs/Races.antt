-- Document 01, "The list" and refusals 1 to 8, 54, 55 and 31: what the list call makes of a trace and a buffer.
use Rattle.std.specs.Prelude.{List, ℕ, Ok}
use Rattle.refusals.specs.Checks.{Checked, ◌▹◌, refuse_short}
use Rattle.list_pairs.specs.List.{list_of, pair_bytes, Listing, listing_of}
use Rattle.trace_text.specs.TraceText.{read_trace}
use Rattle.list_call.specs.Types.{Counts, Refusal}

-- 1 to 8, 54, 55; then 31, the bytes needed, where the buffer has less room; else the counts and the list
unfoldable pub list_races : ℕ → List ℕ → ℕ → Checked Listing
list_races delay trace room =
    read_trace delay trace ▹ λ es.
    refuse_short room (pair_bytes (list_of delay es)) Refusal.ListShort ▹ λ _.
    Ok (listing_of delay es)

-- what is returned: the four counts, or the refusal
abbrev pub list_answer : Checked Listing → Checked Counts
list_answer y = y ▹ λ l. Ok l.counts

-- what is written into the buffer
abbrev pub list_out : Checked Listing → Checked (List ℕ)
list_out y = y ▹ λ l. Ok l.bytes
