-- Reading a trace tells the first of the refusals 1 to 8, 54 and 55 that applies (`trace_refused_iff`), and accepts the text exactly if none does
-- (`trace_accepted_none`). By themselves: the lines (`line_refused_iff`), the tokens (`twice_refused_iff`, `early_refused_iff`) and
-- the clocks (`backward_refused_iff`).
-- Assumes nothing.
use mathlib.Core.Path.{◌≡◌, refl, sym, ap, ◌∙◌, subst}
use mathlib.Core.Bool.{Bool, true, false, not, cond}
use mathlib.Core.Logic.{◌↔◌, inl, inr, ⊎_elim}
use mathlib.Core.List.{List, [], ◌∷◌, ◌++◌}
use Rattle.std.specs.Prelude.{Option, None, Some, Ok, Err}
use Prim.Native.Nat.{ℕ, ◌≤◌, ◌<◌}
use native.Mathlib.Omega.{arith}
use lib.Dec.{eqb}
use lib.ListN.{length}
use borrow.Author.Tests.{eqb-false, ne_eqb, leb-false, lt-leb, not-true}
use Rattle.basics.specs.Searches.{lowest, Lowest}
use Rattle.basics.proofs.Searches.{lowest_none, lowest_iff}
use Rattle.text_lines.specs.Lines.{lines}
use Rattle.text_lines.specs.Limits.{limit_of, Within}
use Rattle.text_lines.proofs.LimitLaws.{within_limit}
use Rattle.text_reader.specs.Each.{read_each}
use Rattle.refusals.specs.Checks.{Checked, ◌▹◌, refuse_if, refuse_at, refuse_none, refuse_limit}
use Rattle.refusals.specs.Refusals.{number_of}
use Rattle.refusals.proofs.Checks.{same_value, refused_by}
use Rattle.trace_line.specs.EventLine.{read_numbered_event, clear_event, range_kept, on_line, read_event}
use Rattle.trace_line.proofs.LineFormat.{line_format}
use Rattle.trace_clocks.specs.Backward.{backward, BackwardAt}
use Rattle.trace_clocks.proofs.Meaning.{backward_iff}
use Rattle.trace_text.specs.TraceText.{twice, taken_early, read_trace}
use Rattle.trace_text.specs.Meaning.{TwiceAt, TakenEarlyAt}
use Rattle.trace_text.proofs.TokenMeaning.{twice_iff, taken_early_iff}
use Rattle.trace_text.proofs.Accepted.{events_read, lines_read, lines_length}
use Rattle.trace_text.proofs.Refused.{ByLine}
use Rattle.refusals_order.specs.Types.{Refusal, Event}
use Rattle.refusals_order.specs.Causes.{Cause, FirstOf, NoneOf, When, AtLowest, Of, line_by_line, LowestLine}
use Rattle.refusals_order.specs.Texts.{limit_causes}
use Rattle.refusals_order.specs.Traces.{IsLine, LineMalformed, Misnumbered, LineBit, LineReversed, line_causes, LinesOf, twice_cause, early_cause, backward_cause, trace_causes}
use Rattle.refusals_order.proofs.Causes.{Tells, handed_none, tells_same, then_tells, none_tells, some_handed, when_tells, lowest_tells, never_tells, of_said, each_tells, lowest_line_iff}
use Rattle.refusals_order.proofs.Texts.{limit_tells, bit_operation}

-- ---- a line: 4, 5, 6, 54
-- the four checks in turn
abbrev in_turn : ℕ → Option (ℕ × Event) → Checked Event
in_turn k x =
    refuse_none x (Refusal.TraceMalformed k) ▹ λ y.
    refuse_if (not (eqb y.0 k)) (Refusal.EventMisnumbered k) ▹ λ _.
    refuse_if (not (clear_event y.1)) (Refusal.TraceAddressBit k) ▹ λ _.
    refuse_if (not (range_kept y.1)) (Refusal.RangeReversed k) ▹ λ _.
    Ok y.1

line_in_turn : (k : ℕ) (x : Option (ℕ × Event)) → in_turn k x ≡ on_line k x
line_in_turn k None = refl
line_in_turn k (Some y) = go (eqb y.0 k) (clear_event y.1) (range_kept y.1)
  where
    go : (a b c : Bool) → (refuse_if (not a) (Refusal.EventMisnumbered k) ▹ λ _. refuse_if (not b) (Refusal.TraceAddressBit k) ▹ λ _. refuse_if (not c) (Refusal.RangeReversed k) ▹ λ _. Ok y.1)
        ≡ cond a (cond b (cond c (Ok y.1) (Err (Refusal.RangeReversed k))) (Err (Refusal.TraceAddressBit k))) (Err (Refusal.EventMisnumbered k))
    go true true true = refl
    go true true false = refl
    go true false c = refl
    go false b c = refl

malformed_iff : (l : List ℕ) → (read_numbered_event l ≡ None) ↔ LineMalformed l
malformed_iff l = (
  λ e n v w. let p = (line_format l n v).1 w in let z : ◌≡◌ {A = ℕ} 0 1 = cc in omega arith,
  λ h. go (read_numbered_event l) refl h,
)
  where
    go : (x : Option (ℕ × Event)) → read_numbered_event l ≡ x → LineMalformed l → read_numbered_event l ≡ None
    go None e h = e
    go (Some y) e h = absurd (h y.0 y.1 ((line_format l y.0 y.1).0 e))

module _ (k : ℕ) (l : List ℕ) (y : ℕ × Event) (e : read_numbered_event l ≡ Some y) where
  own_line : IsLine l y.0 y.1
  own_line = (line_format l y.0 y.1).0 e

  same_line : (n : ℕ) (v : Event) → IsLine l n v → y ≡ (n, v)
  same_line n v w = let p = (line_format l n v).1 w in cc

  misnumbered_iff : (not (eqb y.0 k) ≡ true) ↔ Misnumbered k l
  misnumbered_iff = (
    λ f. (y.0, y.1, own_line, eqb-false y.0 k (not-true _ f)),
    λ (n, v, w, d). let q : y.0 ≡ n = ap (λ z. z.0) (same_line n v w) in rw (q, ne_eqb n k d) refl,
  )

  bit_iff : (not (clear_event y.1) ≡ true) ↔ LineBit l
  bit_iff = (
    λ f. (y.0, y.1, own_line, (bit_operation y.1.operation own_line.1.operation).0 (not-true _ f)),
    λ (n, v, w, d). let q : y.1 ≡ v = ap (λ z. z.1) (same_line n v w) in rw (q, (bit_operation v.operation w.1.operation).1 d) refl,
  )

  reversed_iff : (not (range_kept y.1) ≡ true) ↔ LineReversed l
  reversed_iff = (
    λ f. (y.0, y.1, own_line, leb-false y.1.head.from y.1.head.to (not-true _ f)),
    λ (n, v, w, d). let q : y.1 ≡ v = ap (λ z. z.1) (same_line n v w) in rw (q, lt-leb v.head.from v.head.to d) refl,
  )

line_tells : (k : ℕ) (l : List ℕ) → Tells (read_event k l) (line_causes k l)
unfolding read_event
line_tells k l =
    let x = read_numbered_event l in
    subst (λ z. Tells z (line_causes k l)) (line_in_turn k x)
    (then_tells x4 after4 (When (LineMalformed l) (Refusal.TraceMalformed k) ∷ []) (c5 ∷ c6 ∷ c54 ∷ []) (none_tells x (LineMalformed l) (malformed_iff l) (Refusal.TraceMalformed k))
    (λ y e. then_tells (refuse_if (not (eqb y.0 k)) (Refusal.EventMisnumbered k)) (after5 y) (c5 ∷ []) (c6 ∷ c54 ∷ [])
    (when_tells (not (eqb y.0 k)) (Misnumbered k l) (misnumbered_iff k l y (reads y e)) (Refusal.EventMisnumbered k))
    (λ _ f. then_tells (refuse_if (not (clear_event y.1)) (Refusal.TraceAddressBit k)) (after6 y) (c6 ∷ []) (c54 ∷ [])
    (when_tells (not (clear_event y.1)) (LineBit l) (bit_iff k l y (reads y e)) (Refusal.TraceAddressBit k))
    (λ _ g. then_tells (refuse_if (not (range_kept y.1)) (Refusal.RangeReversed k)) (λ _. Ok y.1) (c54 ∷ []) []
    (when_tells (not (range_kept y.1)) (LineReversed l) (reversed_iff k l y (reads y e)) (Refusal.RangeReversed k))
    (λ _ h. never_tells y.1)))))
  where
    c5 : Cause
    c5 = When (Misnumbered k l) (Refusal.EventMisnumbered k)

    c6 : Cause
    c6 = When (LineBit l) (Refusal.TraceAddressBit k)

    c54 : Cause
    c54 = When (LineReversed l) (Refusal.RangeReversed k)

    x4 : Checked (ℕ × Event)
    x4 = refuse_none (read_numbered_event l) (Refusal.TraceMalformed k)

    after6 : ℕ × Event → Unit {0} → Checked Event
    after6 y _ = refuse_if (not (range_kept y.1)) (Refusal.RangeReversed k) ▹ λ _. Ok y.1

    after5 : ℕ × Event → Unit {0} → Checked Event
    after5 y _ = refuse_if (not (clear_event y.1)) (Refusal.TraceAddressBit k) ▹ after6 y

    after4 : ℕ × Event → Checked Event
    after4 y = refuse_if (not (eqb y.0 k)) (Refusal.EventMisnumbered k) ▹ after5 y

    reads : (y : ℕ × Event) → x4 ≡ Ok y → read_numbered_event l ≡ Some y
    reads y e = some_handed (read_numbered_event l) (Refusal.TraceMalformed k) e

-- ---- the tokens and the clocks: 7, 8, 55
module _ (delay : ℕ) (es : List Event) where
  abbrev late : Checked (List Event)
  late = refuse_at (lowest (backward delay es) (length es)) Refusal.TimeBackward ▹ λ _. Ok es

  abbrev early : Checked (List Event)
  early = refuse_at (lowest (taken_early es) (length es)) Refusal.TokenTooEarly ▹ λ _. late

  abbrev checked : Checked (List Event)
  checked = refuse_at (lowest (twice es) (length es)) Refusal.TokenTwice ▹ λ _. early

  abbrev check_causes : List Cause
  check_causes = twice_cause es ∷ early_cause es ∷ backward_cause delay es ∷ []

  checks_tell : Tells checked check_causes
  checks_tell =
      then_tells (refuse_at (lowest (twice es) (length es)) Refusal.TokenTwice) (λ _. early) (twice_cause es ∷ []) (early_cause es ∷ backward_cause delay es ∷ [])
      (lowest_tells (TwiceAt es) (twice es) (twice_iff es) (length es) Refusal.TokenTwice)
      (λ _ e. then_tells (refuse_at (lowest (taken_early es) (length es)) Refusal.TokenTooEarly) (λ _. late) (early_cause es ∷ []) (backward_cause delay es ∷ [])
      (lowest_tells (TakenEarlyAt es) (taken_early es) (taken_early_iff es) (length es) Refusal.TokenTooEarly)
      (λ _ f. then_tells (refuse_at (lowest (backward delay es) (length es)) Refusal.TimeBackward) (λ _. Ok es) (backward_cause delay es ∷ []) []
      (lowest_tells (BackwardAt delay es) (backward delay es) (backward_iff delay es) (length es) Refusal.TimeBackward)
      (λ _ g. never_tells es)))

-- ---- the text
abbrev of_lines : ℕ → List ℕ → List Cause
of_lines delay s = Of (LinesOf s) twice_cause ∷ Of (LinesOf s) early_cause ∷ Of (LinesOf s) (backward_cause delay) ∷ []

pub trace_tells : (delay : ℕ) (s : List ℕ) → Tells (read_trace delay s) (trace_causes delay s)
unfolding read_trace trace_causes
trace_tells delay s =
    then_tells (refuse_limit (limit_of s) Refusal.TraceTooLong Refusal.TraceUnended Refusal.TraceTooManyLines) (λ _. read_each read_event 0 (lines s) ▹ checked delay)
    (limit_causes s Refusal.TraceTooLong Refusal.TraceUnended Refusal.TraceTooManyLines) (line_by_line line_causes 0 (lines s) ++ of_lines delay s)
    (limit_tells s Refusal.TraceTooLong Refusal.TraceUnended Refusal.TraceTooManyLines)
    (λ _ k. then_tells (read_each read_event 0 (lines s)) (checked delay) (line_by_line line_causes 0 (lines s)) (of_lines delay s)
    (each_tells read_event line_causes line_tells 0 (lines s))
    (λ es e. tells_same (checked delay es) (check_causes delay es) (checks_tell delay es) (of_lines delay s)
    (of_said (LinesOf s) es (said es e) (only es e) twice_cause, (of_said (LinesOf s) es (said es e) (only es e) early_cause, (of_said (LinesOf s) es (said es e) (only es e) (backward_cause delay), tt)))))
  where
    said : (es : List Event) → read_each read_event 0 (lines s) ≡ Ok es → LinesOf s es
    said es e = let (p, w, n) = events_read (lines s) es e in (p, w)

    only : (es : List Event) → read_each read_event 0 (lines s) ≡ Ok es → (fs : List Event) → LinesOf s fs → fs ≡ es
    only es e fs (p, w) =
        let (q, v, n) = events_read (lines s) es e in
        let m : length fs ≡ length es = sym (lines_length 0 fs) ∙ ap length (sym p ∙ q) ∙ lines_length 0 es in
        same_value (sym (lines_read fs 0 w (omega arith)) ∙ ap (read_each read_event 0) (sym p) ∙ e)

-- THE refusal of a trace: the first of document 01's list, 1, 2, 3; on each line 4, 5, 6, 54; 7; 8; 55, that applies
pub trace_refused_iff : (delay : ℕ) (s : List ℕ) (r : Refusal) → (read_trace delay s ≡ Err r) ↔ FirstOf (trace_causes delay s) r
trace_refused_iff delay = trace_tells delay

-- a trace is accepted exactly if none applies
pub trace_accepted_none : (delay : ℕ) (s : List ℕ) → ((es : List Event) × (read_trace delay s ≡ Ok es)) ↔ NoneOf (trace_causes delay s)
trace_accepted_none delay s = handed_none (read_trace delay s) (trace_causes delay s) (trace_tells delay s)

-- ---- the lines, the tokens and the clocks by themselves
-- where no place is told, there is none
none_at : (P : ℕ → Type 0) (p : ℕ → Bool) → ((i : ℕ) → (p i ≡ true) ↔ P i) → (n : ℕ) (refusal : ℕ → Refusal) → ((q : Refusal) → AtLowest P n refusal q → ⊥)
    → (j : ℕ) → j < n → P j → ⊥
none_at P p iff n refusal h = lowest_none P p iff n (go (lowest p n) refl)
  where
    go : (x : Option ℕ) → lowest p n ≡ x → lowest p n ≡ None
    go None e = e
    go (Some k) e = absurd (h (refusal k) (k, (lowest_iff P p iff n k).0 e, refl))

-- the number of a line's refusal is 4, 5, 6 or 54
line_number : (k : ℕ) (l : List ℕ) (r : Refusal) → FirstOf (line_causes k l) r → ByLine r
line_number k l r f =
    ⊎_elim (λ (p, e). inl (omega (arith, ap number_of e)))
    (λ (n, g). ⊎_elim (λ (p, e). inl (omega (arith, ap number_of e)))
    (λ (m, h). ⊎_elim (λ (p, e). inl (omega (arith, ap number_of e)))
    (λ (u, v). ⊎_elim (λ (p, e). inr (ap number_of e)) (λ (a, b). absurd b) v) h) g) f

-- that of the others is 7, 8 or 55
check_number : (delay : ℕ) (es : List Event) (r : Refusal) → FirstOf (check_causes delay es) r → ByLine r → ⊥
check_number delay es r f line =
    ⊎_elim (λ (j, p, e). ⊎_elim (λ l. omega (arith, ap number_of e, l)) (λ q. omega (arith, ap number_of e, q)) line)
    (λ (n, g). ⊎_elim (λ (j, p, e). ⊎_elim (λ l. omega (arith, ap number_of e, l)) (λ q. omega (arith, ap number_of e, q)) line)
    (λ (m, h). ⊎_elim (λ (j, p, e). ⊎_elim (λ l. omega (arith, ap number_of e, l)) (λ q. omega (arith, ap number_of e, q)) line) (λ (u, v). v) h) g) f

module _ (delay : ℕ) (s : List ℕ) (w : Within s) where
  lines_then : read_trace delay s ≡ (read_each read_event 0 (lines s) ▹ checked delay)
  unfolding read_trace
  lines_then = rw (within_limit s w) refl

  -- 4, 5, 6, 54: a text within the limits is refused by a line exactly if that is the lowest line that fails one of the four checks, and
  -- by the first of them that it fails
  pub line_refused_iff : (r : Refusal) → ((read_trace delay s ≡ Err r) × ByLine r) ↔ LowestLine line_causes (lines s) r
  line_refused_iff r = (
    λ (e, n). refused_by (read_each read_event 0 (lines s)) (checked delay) (sym lines_then ∙ e)
        (λ f. (lowest_line_iff line_causes (lines s) r).0 ((each_tells read_event line_causes line_tells 0 (lines s) r).0 f))
        (λ es f g. absurd (check_number delay es r ((checks_tell delay es r).0 g) n)),
    λ m. (
      lines_then ∙ ap (λ x. x ▹ checked delay) ((each_tells read_event line_causes line_tells 0 (lines s) r).1 ((lowest_line_iff line_causes (lines s) r).1 m)),
      line_number m.line m.text r m.first,
    ),
  )

  module _ (es : List Event) (l : LinesOf s es) where
    then_checked : read_trace delay s ≡ checked delay es
    then_checked =
        let n : length es ≤ 256 = omega (arith, w.few, ap length l.0, lines_length 0 es) in
        lines_then ∙ ap (λ x. x ▹ checked delay) (ap (read_each read_event 0) l.0 ∙ lines_read es 0 l.1 (omega arith))

    -- 7: where no line is refused, line j is exactly if it is the lowest with a token twice
    pub twice_refused_iff : (j : ℕ) → (read_trace delay s ≡ Err (Refusal.TokenTwice j)) ↔ Lowest (TwiceAt es) (length es) j
    twice_refused_iff j = (
      λ e. ⊎_elim
          (λ (k, m, q). let h : k ≡ j = cc in rw h at m)
          (λ (n, g). ⊎_elim (λ (k, m, q). absurd (omega (arith, ap number_of q))) (λ (n', g'). ⊎_elim (λ (k, m, q). absurd (omega (arith, ap number_of q))) (λ (u, v). absurd v) g') g)
          ((checks_tell delay es (Refusal.TokenTwice j)).0 (sym then_checked ∙ e)),
      λ m. then_checked ∙ (checks_tell delay es (Refusal.TokenTwice j)).1 (inl (j, m, refl)),
    )

    -- 8: and where no token stands twice, line i is exactly if it is the lowest that takes one in too early
    pub early_refused_iff : (i : ℕ) → (read_trace delay s ≡ Err (Refusal.TokenTooEarly i)) ↔ (((j : ℕ) → j < length es → TwiceAt es j → ⊥) × Lowest (TakenEarlyAt es) (length es) i)
    early_refused_iff i = (
      λ e. ⊎_elim
          (λ (k, m, q). absurd (omega (arith, ap number_of q)))
          (λ (n, g). ⊎_elim (λ (k, m, q). let h : k ≡ i = cc in (none_at (TwiceAt es) (twice es) (twice_iff es) (length es) Refusal.TokenTwice n, rw h at m))
          (λ (n', g'). ⊎_elim (λ (k, m, q). absurd (omega (arith, ap number_of q))) (λ (u, v). absurd v) g') g)
          ((checks_tell delay es (Refusal.TokenTooEarly i)).0 (sym then_checked ∙ e)),
      λ (n, m). then_checked ∙ (checks_tell delay es (Refusal.TokenTooEarly i)).1 (inr (λ q (k, h, e). n k h.inside h.here, inl (i, m, refl))),
    )

    -- 55: and where none is taken in too early either, line i is exactly if it is the lowest before which the time rule puts a later one
    pub backward_refused_iff : (i : ℕ) → (read_trace delay s ≡ Err (Refusal.TimeBackward i))
        ↔ (((j : ℕ) → j < length es → TwiceAt es j → ⊥) × ((j : ℕ) → j < length es → TakenEarlyAt es j → ⊥) × Lowest (BackwardAt delay es) (length es) i)
    backward_refused_iff i = (
      λ e. ⊎_elim
          (λ (k, m, q). absurd (omega (arith, ap number_of q)))
          (λ (n, g). ⊎_elim (λ (k, m, q). absurd (omega (arith, ap number_of q)))
          (λ (n', g'). ⊎_elim (λ (k, m, q). let h : k ≡ i = cc in (
            none_at (TwiceAt es) (twice es) (twice_iff es) (length es) Refusal.TokenTwice n,
            none_at (TakenEarlyAt es) (taken_early es) (taken_early_iff es) (length es) Refusal.TokenTooEarly n',
            rw h at m,
          )) (λ (u, v). absurd v) g') g)
          ((checks_tell delay es (Refusal.TimeBackward i)).0 (sym then_checked ∙ e)),
      λ (n, n', m). then_checked ∙ (checks_tell delay es (Refusal.TimeBackward i)).1 (inr (λ q (k, h, e). n k h.inside h.here, inr (λ q (k, h, e). n' k h.inside h.here, inl (i, m, refl)))),
    )
