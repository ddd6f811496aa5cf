-- Inner: what parts of the code answer.
use Rattle.std.specs.Prelude.{List, map, ◌≡◌, ℕ, ◌≤◌, length, Ok, IfOk}
use Rattle.basics.specs.Searches.{lowest}
use Rattle.refusals.specs.Checks.{Checked, ◌▹◌, refuse_at}
use Rattle.trace_events.specs.Events.{events_of}
use Rattle.trace_clocks.specs.Backward.{check_clocks}
use Rattle.trace_text.specs.Types.{Refusal, Event, Tokens, Trace}
use Rattle.trace_text.specs.TraceText.{twice, taken_early}

-- what each line puts out
abbrev pub all_outs : List Event → List Tokens
all_outs es = map (λ e. e.head.outs) es

-- 7, then 8, of events that are read
unfoldable pub check_tokens : List Event → Checked (List Event)
check_tokens es =
    refuse_at (lowest (twice es) (length es)) Refusal.TokenTwice ▹ λ _.
    refuse_at (lowest (taken_early es) (length es)) Refusal.TokenTooEarly ▹ λ _.
    Ok es

-- 7, 8, and then 55
unfoldable pub check_events : ℕ → List Event → Checked (List Event)
check_events delay es =
    refuse_at (lowest (twice es) (length es)) Refusal.TokenTwice ▹ λ _.
    refuse_at (lowest (taken_early es) (length es)) Refusal.TokenTooEarly ▹ λ _.
    check_clocks delay es

-- the events of the trace that the code answers, or what is refused
abbrev pub as_trace : Checked Trace → Checked (List Event)
as_trace r = r ▹ λ t. Ok (events_of t)

-- and with it how long the trace is
pub record TraceOf (x : Checked (List Event)) (r : Checked Trace) : Type 0 where
  pub answer : as_trace r ≡ x
  pub few : IfOk r (λ t. t.len ≤ 256)
