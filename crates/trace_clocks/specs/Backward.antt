-- Document 01, "Refusal table", 55: the time rule puts a later line before an earlier one; as a test and in words.
use Rattle.std.specs.Prelude.{Bool, ◌&&◌, List, ℕ, ◌<◌, ltb, length, Ok}
use Rattle.basics.specs.Searches.{any_below, lowest}
use Rattle.refusals.specs.Checks.{Checked, ◌▹◌, refuse_at}
use Rattle.trace_events.specs.Events.{event_at}
use Rattle.trace_events.specs.Clocks.{time_step, TimeSteps}
use Rattle.trace_clocks.specs.Types.{Refusal, Event}

-- the time rule puts a line behind i before line i
unfoldable pub backward : ℕ → List Event → ℕ → Bool
backward delay es i = any_below (λ j. ltb i j && time_step delay (event_at es j) (event_at es i)) (length es)

-- 55 at the lowest such line i
unfoldable pub check_clocks : ℕ → List Event → Checked (List Event)
check_clocks delay es =
    refuse_at (lowest (backward delay es) (length es)) Refusal.TimeBackward ▹ λ _.
    Ok es

-- in words: the time rule puts a later line before the earlier line i (proofs/Meaning.antt, `backward_iff`)
pub record BackwardAt (delay : ℕ) (es : List Event) (i : ℕ) : Type 0 where
  pub line : ℕ
  pub later : i < line
  pub inside : line < length es
  pub puts : TimeSteps delay (event_at es line) (event_at es i)
