-- Why a trace is refused: 1, 2, 3 by the text, 4, 5, 6, 54 by a line, 7 and 8 by the tokens, 55 by the clocks (`refused_for`). Assumes nothing.
use Prim.Native.Nat.{ℕ, ◌<◌, ◌≤◌}
use native.Mathlib.Omega.{arith}
use mathlib.Core.Path.{◌≡◌, refl}
use mathlib.Core.List.{List}
use mathlib.Core.Logic.{◌⊎◌, inl, inr}
use Rattle.std.specs.Prelude.{Option, None, Some, Ok, Err}
use lib.Dec.{eqb}
use lib.ListN.{length}
use Rattle.basics.proofs.Booleans.{split}
use Rattle.text_lines.specs.Lines.{lines}
use Rattle.text_lines.specs.Limits.{limit_of, Within}
use Rattle.text_lines.proofs.LimitLaws.{limit_within}
use Rattle.text_reader.specs.Each.{read_each}
use Rattle.text_reader.proofs.Each.{each_refused}
use Rattle.refusals.specs.Refusals.{number_of, place_of, source_of}
use Rattle.refusals.specs.Checks.{◌▹◌, refuse_limit}
use Rattle.refusals.proofs.Checks.{not_refused, same_refusal, refused_by, limit_kept}
use Rattle.trace_line.specs.EventLine.{clear_event, range_kept, read_numbered_event, on_line, read_event}
use Rattle.trace_clocks.specs.Backward.{check_clocks}
use Rattle.trace_text.specs.Types.{Refusal, Limit, Source, Event}
use Rattle.trace_text.specs.TraceText.{read_trace}
use Rattle.trace_text.specs.Inner.{check_events}

-- ---- the text: 1, 2, 3 have the place 0
limit_refuses : (l : Option Limit) (r : Refusal) → refuse_limit l Refusal.TraceTooLong Refusal.TraceUnended Refusal.TraceTooManyLines ≡ Err r
    → (number_of r ≤ 3) × (place_of r ≡ 0) × (source_of r ≡ Source.Neither)
limit_refuses (Some Limit.TooLong) r u = rw (← same_refusal u) (omega arith, refl, refl)
limit_refuses (Some Limit.Unended) r u = rw (← same_refusal u) (omega arith, refl, refl)
limit_refuses (Some Limit.TooManyLines) r u = rw (← same_refusal u) (omega arith, refl, refl)
limit_refuses None r u = not_refused u

-- ---- a line: 4, 5, 6, 54 are of the line itself
abbrev pub ByLine : Refusal → Type 0
ByLine r = (number_of r ≤ 6) ⊎ (number_of r ≡ 54)

line_refuses : (k : ℕ) (l : List ℕ) (r : Refusal) → read_event k l ≡ Err r → ByLine r × (place_of r ≡ k)
unfolding read_event
line_refuses k l r h = go (read_numbered_event l) h
  where
    go : (x : Option (ℕ × Event)) → on_line k x ≡ Err r → ByLine r × (place_of r ≡ k)
    go None u = rw (← same_refusal u) (inl (omega arith), refl)
    go (Some x) u = split (eqb x.0 k)
        (λ a. split (clear_event x.1)
        (λ b. split (range_kept x.1)
        (λ d. not_refused (rw (a, b, d) at u))
        (λ d. rw (← same_refusal (rw (a, b, d) at u)) (inr refl, refl)))
        (λ b. rw (← same_refusal (rw (a, b) at u)) (inl (omega arith), refl)))
        (λ a. rw (← same_refusal (rw a at u)) (inl (omega arith), refl))

-- ---- why a trace is refused: by a limit, by a line, or by the tokens or the clocks of its events
pub refused_for : {G : Type 0} (delay : ℕ) (s : List ℕ) (r : Refusal) → read_trace delay s ≡ Err r
    → (number_of r ≤ 3 → place_of r ≡ 0 → source_of r ≡ Source.Neither → G)
    → (Within s → ByLine r → place_of r < length (lines s) → G)
    → (Within s → (es : List Event) → read_each read_event 0 (lines s) ≡ Ok es → check_events delay es ≡ Err r → G)
    → G
unfolding read_trace check_events check_clocks
refused_for delay s r h limit line events =
    refused_by (refuse_limit (limit_of s) Refusal.TraceTooLong Refusal.TraceUnended Refusal.TraceTooManyLines) (λ _. read_each read_event 0 (lines s) ▹ check_events delay) h
    (λ u. let (n, p, q) = limit_refuses (limit_of s) r u in limit n p q)
    (λ _ k u. let w = limit_within s (limit_kept (limit_of s) _ _ _ k) in
    refused_by (read_each read_event 0 (lines s)) (check_events delay) u
    (λ v. let (j, l, a, b, e) = each_refused read_event 0 (lines s) r v in
    let (n, p) = line_refuses j l r e in
    line w n (omega arith))
    (λ es e v. events w es e v))
