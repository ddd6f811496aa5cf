-- Document 01, "Trace text" and "Refusal table": the whole text, a line a check, in the order of the checks.
use Rattle.std.specs.Prelude.{Bool, ◌&&◌, List, ℕ, leb, length, Ok}
use Rattle.text_lines.specs.Lines.{lines}
use Rattle.text_lines.specs.Limits.{limit_of}
use Rattle.text_reader.specs.Each.{read_each}
use Rattle.trace_events.specs.Events.{tokens_of, event_at}
use Rattle.basics.specs.Searches.{any_below, shares, lowest}
use Rattle.trace_line.specs.EventLine.{read_event}
use Rattle.trace_clocks.specs.Backward.{backward}
use Rattle.refusals.specs.Checks.{Checked, ◌▹◌, refuse_limit, refuse_at}
use Rattle.trace_text.specs.Types.{Refusal, Event}

-- the tokens that line i takes in and puts out
abbrev pub ins_at : List Event → ℕ → List ℕ
ins_at es i = tokens_of (event_at es i).head.ins

abbrev pub outs_at : List Event → ℕ → List ℕ
outs_at es i = tokens_of (event_at es i).head.outs

-- some line from `from` on and before `to` puts out one of the tokens, where `outs` has what each line puts out
unfoldable pub puts_out : (ℕ → List ℕ) → List ℕ → ℕ → ℕ → Bool
puts_out outs tokens from to = any_below (λ k. leb from k && shares tokens (outs k)) to

-- 7: a token of line j's `out` stands in `out` of an earlier line
unfoldable pub twice : List Event → ℕ → Bool
twice es j = puts_out (outs_at es) (outs_at es j) 0 j

-- 8: a token of line i's `in` stands in `out` of this or a later line
unfoldable pub taken_early : List Event → ℕ → Bool
taken_early es i = puts_out (outs_at es) (ins_at es i) i (length es)

-- 1, 2, 3; the lines from the first, on each 4, 5, 6, 54; then 7 over the trace, lowest line; then 8 likewise; then 55 likewise
unfoldable pub read_trace : ℕ → List ℕ → Checked (List Event)
read_trace delay s =
    refuse_limit (limit_of s) Refusal.TraceTooLong Refusal.TraceUnended Refusal.TraceTooManyLines ▹ λ _.
    read_each read_event 0 (lines s) ▹ λ es.
    refuse_at (lowest (twice es) (length es)) Refusal.TokenTwice ▹ λ _.
    refuse_at (lowest (taken_early es) (length es)) Refusal.TokenTooEarly ▹ λ _.
    refuse_at (lowest (backward delay es) (length es)) Refusal.TimeBackward ▹ λ _.
    Ok es
