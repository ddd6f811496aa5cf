-- The answer and the buffer of a page, by the paths through the code. Assumes nothing.
use Rattle.std.specs.Prelude.{Ok, Err}
use Prim.Native.Nat.{ℕ, ◌+◌, ◌*◌, ◌<◌, ◌≤◌}
use native.Mathlib.Omega.{arith}
use mathlib.Core.Path.{◌≡◌, refl, sym, ap, ◌∙◌}
use mathlib.Core.List.{List}
use lib.ListN.{length, take}
use Rattle.text_numbers.specs.Inner.{Put}
use Rattle.text_numbers.proofs.Writing.{put_whole}
use Rattle.refusals.proofs.Checks.{short_refused, short_passed}
use Rattle.text_lines.specs.Lines.{unlines}
use Rattle.trace_events.specs.Events.{event_at, events_of}
use Rattle.trace_line.specs.Written.{EventInRange}
use Rattle.trace_text.specs.TraceText.{read_trace}
use Rattle.trace_text.proofs.Accepted.{events_in_range}
use Rattle.list_verdicts.specs.Kinds.{listed}
use Rattle.list_pairs.specs.List.{count, counts_of}
use Rattle.list_pairs.specs.Inner.{HoldsList}
use Rattle.list_pairs.proofs.Made.{counts_are, list_is}
use Rattle.page_text.specs.Page.{count_texts, page_text}
use Rattle.page_text.specs.Inner.{pairs_text}
use Rattle.page_text.proofs.Putting.{page_put}
use Rattle.page_text.proofs.Ranges.{lines_range}
use Rattle.page_text.proofs.Sizes.{page_length}
use Rattle.page_call.specs.Types.{Event, Trace, Counts, Refusal}
use Rattle.page_call.specs.Inner.{fitted, Pages, Ranged}

-- ---- the list in a buffer of its own
module _ (delay : ℕ) (es : List Event) (c : Counts) (bytes : List ℕ) (h : HoldsList delay es c bytes) where
  listed_is : c.listed ≡ count delay listed es
  unfolding counts_of
  listed_is = ap (λ (d : Counts). d.listed) (counts_are delay es c bytes h)

  module _ (few : length es ≤ 256) (range : (i : ℕ) → EventInRange (event_at es i)) (old : List ℕ) where
    needed_is : 61 * (c.listed + 4) ≡ length (page_text delay es)
    needed_is = ap (λ (n : ℕ). 61 * (n + 4)) listed_is ∙ sym (page_length delay es (lines_range es range delay few))

    pub page_short : length old < 61 * (c.listed + 4) → Pages (fitted delay es (length old)) (Err (Refusal.PageShort (61 * (c.listed + 4)))) old old
    unfolding fitted
    page_short l =
        let t = short_refused (length old) (page_text delay es) Refusal.PageShort (omega (arith, needed_is)) in
        rw t (record { answer = ap (λ (n : ℕ). Err (Refusal.PageShort n)) needed_is; buffer = refl })

    pub page_done : {at n : ℕ} {now out : List ℕ} → 61 * (c.listed + 4) ≤ length old → Put (pairs_text es (take (2 * c.listed) bytes)) 0 old at now → Put (unlines (count_texts c)) at now n out
        → Pages (fitted delay es (length old)) (Ok n) old out
    unfolding fitted
    page_done {n = n} m p q =
        let put = page_put delay es (take (2 * c.listed) bytes) c (list_is delay es c bytes h) (counts_are delay es c bytes h) p q in
        let t = short_passed (length old) (page_text delay es) Refusal.PageShort (omega (arith, needed_is)) in
        let e : n ≡ length (page_text delay es) = omega (arith, put.after) in
        rw t (record { answer = ap Ok e; buffer = put_whole put (omega (arith, needed_is)) ∙ rw e refl })

-- ---- the events of an accepted trace are in range
pub ranged : (delay : ℕ) (text : List ℕ) {t : Trace} → t.len ≤ 256 → Ok (events_of t) ≡ read_trace delay text → Ranged t
ranged delay text {t} few e = record { few = few; range = events_in_range delay text (events_of t) (sym e) }
