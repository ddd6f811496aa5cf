-- Inner: what parts of the code answer.
use Rattle.std.specs.Prelude.{List, ◌≡◌, ℕ, ◌≤◌, Ok}
use Rattle.refusals.specs.Checks.{Checked, ◌▹◌, refuse_short, written}
use Rattle.trace_events.specs.Events.{event_at, events_of}
use Rattle.trace_line.specs.Written.{EventInRange}
use Rattle.page_text.specs.Page.{page_text}
use Rattle.page_call.specs.Types.{Refusal, Event, Trace}
use Rattle.page_call.specs.Paged.{page_answer}

-- 51, of the events of an accepted trace
unfoldable pub fitted : ℕ → List Event → ℕ → Checked (List ℕ)
fitted delay es room =
    refuse_short room (page_text delay es) Refusal.PageShort ▹ λ _.
    Ok (page_text delay es)

-- an answer and a buffer, before and after, are as the page call leaves them
pub record Pages (y : Checked (List ℕ)) (r : Checked ℕ) (old new : List ℕ) : Type 0 where
  pub answer : r ≡ page_answer y
  pub buffer : new ≡ written y old

-- at most 256 events, all in range
pub record Ranged (t : Trace) : Type 0 where
  pub few : t.len ≤ 256
  pub range : (i : ℕ) → EventInRange (event_at (events_of t) i)
