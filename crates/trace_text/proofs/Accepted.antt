-- Which texts are accepted, and as which events: exactly those that `IsTrace` describes. So one text is one trace, what its
-- events carry is in range, its clocks agree with its lines, and a longer delay accepts no fewer. Assumes nothing.
use mathlib.Core.Path.{◌≡◌, refl, ◌∙◌, ap}
use mathlib.Core.Logic.{◌↔◌}
use mathlib.Core.Bool.{true}
use mathlib.Core.List.{List, [], ◌∷◌}
use Rattle.std.specs.Prelude.{Option, None, Some, Ok}
use Prim.Native.Nat.{ℕ, zero, suc, ◌+◌, ◌≤◌, ◌<◌}
use native.Mathlib.Omega.{arith}
use lib.Dec.{eqb}
use lib.ListN.{length}
use borrow.Author.Tests.{eqb-true, eq-eqb}
use Rattle.basics.proofs.Booleans.{split}
use Rattle.text_lines.specs.Lines.{lines}
use Rattle.text_lines.specs.Limits.{limit_of}
use Rattle.text_lines.proofs.LimitLaws.{within_limit, limit_within}
use Rattle.text_reader.specs.Each.{read_each}
use Rattle.text_reader.proofs.Each.{refuses, Each, each_only}
use Rattle.trace_events.specs.Events.{event_at}
use Rattle.trace_line.specs.EventLine.{print_line, clear_event, range_kept, read_numbered_event, on_line, read_event}
use Rattle.trace_line.specs.Written.{EventWritten, EventInRange}
use Rattle.trace_line.proofs.LineFormat.{line_format}
use Rattle.trace_line.proofs.EventRanges.{event_range}
use Rattle.refusals.specs.Checks.{◌▹◌, refuse_limit, refuse_at}
use Rattle.refusals.proofs.Checks.{same_value, handed_on, nothing_found, limit_kept}
use Rattle.basics.specs.Searches.{lowest}
use Rattle.basics.proofs.Searches.{lowest_none, lowest_absent}
use Rattle.trace_events.specs.Clocks.{InLineOrder}
use Rattle.trace_clocks.specs.Backward.{check_clocks, BackwardAt}
use Rattle.trace_clocks.proofs.Meaning.{clocks_only, clocks_pass, clocks_forward, less_backward}
use Rattle.trace_text.specs.Types.{Refusal, Event}
use Rattle.trace_text.specs.TraceText.{twice, taken_early, read_trace}
use Rattle.trace_text.specs.Inner.{check_events}
use Rattle.trace_text.specs.Meaning.{TwiceAt, TakenEarlyAt, print_from, AllWritten, IsTrace}
use Rattle.trace_text.proofs.TokenMeaning.{twice_iff, taken_early_iff}

-- ---- a line
event_only : (k : ℕ) (l : List ℕ) (e : Event) → read_event k l ≡ Ok e → (k ≤ 255) × EventWritten e × (clear_event e ≡ true) × (range_kept e ≡ true) × (l ≡ print_line k e)
unfolding read_event
event_only k l e h = go (read_numbered_event l) refl h
  where
    go : (r : Option (ℕ × Event)) → read_numbered_event l ≡ r → on_line k r ≡ Ok e → (k ≤ 255) × EventWritten e × (clear_event e ≡ true) × (range_kept e ≡ true) × (l ≡ print_line k e)
    go None q u = refuses u
    go (Some r) q u = split (eqb r.0 k)
        (λ a. split (clear_event r.1)
        (λ b. split (range_kept r.1)
        (λ d. let x : r.1 ≡ e = same_value (rw (a, b, d) at u) in
        let y : r.0 ≡ k = eqb-true r.0 k a in
        let f = (line_format l r.0 r.1).0 q in
        rw (← x, ← y) (f.0, f.1, b, d, f.2))
        (λ d. refuses (rw (a, b, d) at u)))
        (λ b. refuses (rw (a, b) at u)))
        (λ a. refuses (rw a at u))

event_reads : (k : ℕ) (e : Event) → k ≤ 255 → EventWritten e → clear_event e ≡ true → range_kept e ≡ true → read_event k (print_line k e) ≡ Ok e
unfolding read_event
event_reads k e h w c d = rw ((line_format (print_line k e) k e).1 (h, w, refl), eq-eqb k k refl, c, d) refl

-- ---- the lines
-- the line of an event
abbrev LineOf : ℕ → List ℕ → Event → Type 0
LineOf k l e = (k ≤ 255) × EventWritten e × (clear_event e ≡ true) × (range_kept e ≡ true) × (l ≡ print_line k e)

lines_only : (k : ℕ) (ls : List (List ℕ)) (es : List Event) → Each LineOf k ls es → k ≤ 256 → (ls ≡ print_from k es) × AllWritten es × (k + length es ≤ 256)
lines_only k [] [] h b = (refl, tt, omega arith)
lines_only k [] (e ∷ es) h b = absurd h
lines_only k (l ∷ ls) [] h b = absurd h
lines_only k (l ∷ ls) (e ∷ es) h b =
    let f = h.0 in
    let m = f.0 in
    let g = lines_only (k + 1) ls es h.1 (omega arith) in
    let n = g.2 in
    (ap {B = List (List ℕ)} (λ y. y ∷ ls) f.4 ∙ ap (λ y. print_line k e ∷ y) g.0, ((f.1, f.2, f.3), g.1), omega arith)

-- the lines that read as events are theirs, and at most 256
pub events_read : (ls : List (List ℕ)) (es : List Event) → read_each read_event 0 ls ≡ Ok es → (ls ≡ print_from 0 es) × AllWritten es × (length es ≤ 256)
events_read ls es e =
    let (p, w, n) = lines_only 0 ls es (each_only read_event LineOf event_only 0 ls es e) (omega arith) in
    (p, w, omega arith)

pub lines_read : (es : List Event) (k : ℕ) → AllWritten es → k + length es ≤ 256 → read_each read_event k (print_from k es) ≡ Ok es
unfolding read_each
lines_read [] k w b = refl
lines_read (e ∷ es) k w b = rw (event_reads k e (omega arith) w.0.0 w.0.1 w.0.2, lines_read es (k + 1) w.1 (omega arith)) refl

pub lines_length : (k : ℕ) (es : List Event) → length (print_from k es) ≡ length es
lines_length k [] = refl
lines_length k (e ∷ es) = ap suc (lines_length (k + 1) es)

-- ---- the tokens and the clocks
-- no token stands twice, none is taken in too early, and the time rule puts no later line before an earlier one
abbrev EventsFine : ℕ → List Event → Type 0
EventsFine delay es =
    ((j : ℕ) → j < length es → TwiceAt es j → ⊥) × ((i : ℕ) → i < length es → TakenEarlyAt es i → ⊥) × ((i : ℕ) → i < length es → BackwardAt delay es i → ⊥)

module _ (delay : ℕ) (es : List Event) where
  events_only : {fs : List Event} → check_events delay es ≡ Ok fs → (es ≡ fs) × EventsFine delay es
  unfolding check_events
  events_only h =
      let (_, p, u) = handed_on (refuse_at (lowest (twice es) (length es)) Refusal.TokenTwice) (λ _. refuse_at (lowest (taken_early es) (length es)) Refusal.TokenTooEarly ▹ λ _. check_clocks delay es) h in
      let (_, q, v) = handed_on (refuse_at (lowest (taken_early es) (length es)) Refusal.TokenTooEarly) (λ _. check_clocks delay es) u in
      let (same, forward) = clocks_only delay es v in (
        same,
        (
          lowest_none (TwiceAt es) (twice es) (twice_iff es) (length es) (nothing_found _ _ p),
          lowest_none (TakenEarlyAt es) (taken_early es) (taken_early_iff es) (length es) (nothing_found _ _ q),
          forward,
        ),
      )

  events_pass : EventsFine delay es → check_events delay es ≡ Ok es
  unfolding check_events
  events_pass (a, b, c) =
      rw (
        lowest_absent (TwiceAt es) (twice es) (twice_iff es) (length es) a,
        lowest_absent (TakenEarlyAt es) (taken_early es) (taken_early_iff es) (length es) b,
      ) (clocks_pass delay es c)

-- ---- the text
module _ (delay : ℕ) (s : List ℕ) (es : List Event) where
  trace_only : read_trace delay s ≡ Ok es → IsTrace delay s es
  unfolding read_trace check_events check_clocks
  trace_only h =
      let (_, p, u) = handed_on (refuse_limit (limit_of s) Refusal.TraceTooLong Refusal.TraceUnended Refusal.TraceTooManyLines) (λ _. read_each read_event 0 (lines s) ▹ check_events delay) h in
      let (fs, q, v) = handed_on (read_each read_event 0 (lines s)) (check_events delay) u in
      let w = limit_within s (limit_kept (limit_of s) _ _ _ p) in
      let t = events_only delay fs v in
      let l = events_read (lines s) fs q in
      rw (← t.0) (record {
        bytes = w.bytes;
        ended = w.ended;
        few = l.2;
        printed = l.0;
        written = l.1;
        once = t.1.0;
        in_time = t.1.1;
        forward = t.1.2;
      })

  trace_reads : IsTrace delay s es → read_trace delay s ≡ Ok es
  unfolding read_trace check_events check_clocks
  trace_reads t =
      let n : length (lines s) ≤ 256 = (let e = ap length t.printed ∙ lines_length 0 es in let f = t.few in omega arith) in
      let r : read_each read_event 0 (lines s) ≡ Ok es = ap (read_each read_event 0) t.printed ∙ lines_read es 0 t.written (let f = t.few in omega arith) in
      rw (within_limit s (record { bytes = t.bytes; ended = t.ended; few = n }), r) (events_pass delay es (t.once, t.in_time, t.forward))

  -- a text is accepted as these events exactly if it is their text
  pub trace_accepted_iff : (read_trace delay s ≡ Ok es) ↔ IsTrace delay s es
  trace_accepted_iff = (trace_only, trace_reads)

-- what every event of an accepted trace does is in range, on one of the 16 switches, and its clock range is not empty
written_range : (es : List Event) → AllWritten es → (i : ℕ) → EventInRange (event_at es i)
written_range [] w i = record { effect = tt; switch = omega arith; clock = omega arith }
written_range (e ∷ es) w zero = event_range e w.0.0 w.0.1 w.0.2
written_range (e ∷ es) w (suc i) = written_range es w.1 i

pub events_in_range : (delay : ℕ) (s : List ℕ) (es : List Event) → read_trace delay s ≡ Ok es → (i : ℕ) → EventInRange (event_at es i)
events_in_range delay s es h = written_range es (trace_only delay s es h).written

-- the clocks of an accepted trace agree with its lines
pub accepted_in_line_order : (delay : ℕ) (s : List ℕ) (es : List Event) → read_trace delay s ≡ Ok es → InLineOrder delay es
accepted_in_line_order delay s es h = record {
  ranges = λ i l. (events_in_range delay s es h i).clock;
  forward = clocks_forward delay es (clocks_pass delay es (trace_only delay s es h).forward);
}

-- a longer delay accepts no fewer traces
pub accepted_longer : (d e : ℕ) (s : List ℕ) (es : List Event) → d ≤ e → read_trace d s ≡ Ok es → read_trace e s ≡ Ok es
accepted_longer d e s es l h =
    let t = trace_only d s es h in
    trace_reads e s es (record {
      bytes = t.bytes;
      ended = t.ended;
      few = t.few;
      printed = t.printed;
      written = t.written;
      once = t.once;
      in_time = t.in_time;
      forward = λ i m w. t.forward i m (less_backward d e es l i w);
    })
