-- Document 01, "Refusal table", 1 to 8, 54 and 55: when each refusal of a trace applies.
use Rattle.std.specs.Prelude.{List, [], ◌∷◌, ◌++◌, ◌≡◌, ℕ, ◌≤◌, ◌<◌, length}
use Rattle.text_lines.specs.Lines.{lines}
use Rattle.trace_line.specs.EventLine.{print_line}
use Rattle.trace_line.specs.Written.{EventWritten}
use Rattle.trace_clocks.specs.Backward.{BackwardAt}
use Rattle.trace_text.specs.Meaning.{TwiceAt, TakenEarlyAt, print_from, AllWritten}
use Rattle.refusals_order.specs.Types.{Refusal, Event}
use Rattle.refusals_order.specs.Causes.{Cause, When, AtLowest, Of, line_by_line}
use Rattle.refusals_order.specs.Texts.{limit_causes, BitInOperation}

-- ---- a line
-- it is the line of event e with the number n, each value in its range
abbrev pub IsLine : List ℕ → ℕ → Event → Type 0
IsLine l n e = (n ≤ 255) × EventWritten e × (l ≡ print_line n e)

-- 4: it is the line of no event
abbrev pub LineMalformed : List ℕ → Type 0
LineMalformed l = (n : ℕ) (e : Event) → IsLine l n e → ⊥

-- 5: its number is not the line number
abbrev pub Misnumbered : ℕ → List ℕ → Type 0
Misnumbered k l = (n : ℕ) × (e : Event) × IsLine l n e × (n ≡ k → ⊥)

-- 6: its event has an address bit past a prefix
abbrev pub LineBit : List ℕ → Type 0
LineBit l = (n : ℕ) × (e : Event) × IsLine l n e × BitInOperation e.operation

-- 54: the `from` of its event is above its `to`
abbrev pub LineReversed : List ℕ → Type 0
LineReversed l = (n : ℕ) × (e : Event) × IsLine l n e × (e.head.to < e.head.from)

abbrev pub line_causes : ℕ → List ℕ → List Cause
line_causes k l =
    When (LineMalformed l) (Refusal.TraceMalformed k)
    ∷ When (Misnumbered k l) (Refusal.EventMisnumbered k)
    ∷ When (LineBit l) (Refusal.TraceAddressBit k)
    ∷ When (LineReversed l) (Refusal.RangeReversed k)
    ∷ []

-- ---- the tokens and the clocks
-- the lines are those of the events, none of which is refused
abbrev pub LinesOf : List ℕ → List Event → Type 0
LinesOf s es = (lines s ≡ print_from 0 es) × AllWritten es

-- 7: the lowest line with a token in its `out` that stands in `out` of an earlier one
abbrev pub twice_cause : List Event → Cause
twice_cause es = AtLowest (TwiceAt es) (length es) Refusal.TokenTwice

-- 8: the lowest line with an `in` token whose `out` stands on this or a later line
abbrev pub early_cause : List Event → Cause
early_cause es = AtLowest (TakenEarlyAt es) (length es) Refusal.TokenTooEarly

-- 55: the lowest line before which the time rule puts a later one
abbrev pub backward_cause : ℕ → List Event → Cause
backward_cause delay es = AtLowest (BackwardAt delay es) (length es) Refusal.TimeBackward

-- ---- the text: 1, 2, 3; then lines from the first, on each 4, 5, 6, 54; then 7 over the trace, lowest line; then 8 likewise; then 55
-- likewise
unfoldable pub trace_causes : ℕ → List ℕ → List Cause
trace_causes delay s =
    limit_causes s Refusal.TraceTooLong Refusal.TraceUnended Refusal.TraceTooManyLines
    ++ (line_by_line line_causes 0 (lines s)
    ++ (Of (LinesOf s) twice_cause
    ∷ Of (LinesOf s) early_cause
    ∷ Of (LinesOf s) (backward_cause delay)
    ∷ []))
