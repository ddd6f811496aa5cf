-- Document 01, "Refusal table" 7 and 8, in its words: what the two checks of the tokens look for. (`twice_iff` and `taken_early_iff`,
-- proofs/TokenMeaning.antt, say that they find just this.)
use Rattle.std.specs.Prelude.{◌≡◌, true, List, [], ◌∷◌, ℕ, ◌+◌, ◌≤◌, ◌<◌, length}
use Rattle.text_lines.specs.Lines.{lines, ends_with_lf}
use Rattle.basics.specs.Searches.{has}
use Rattle.trace_line.specs.EventLine.{print_line, clear_event, range_kept}
use Rattle.trace_line.specs.Written.{EventWritten}
use Rattle.trace_clocks.specs.Backward.{BackwardAt}
use Rattle.trace_text.specs.Types.{Event}
use Rattle.trace_text.specs.TraceText.{ins_at, outs_at}

-- a token stands in `out` of two lines, and j is the later
pub record TwiceAt (es : List Event) (j : ℕ) : Type 0 where
  pub token : ℕ
  pub line : ℕ
  pub earlier : line < j
  pub first : has token (outs_at es line) ≡ true
  pub second : has token (outs_at es j) ≡ true

-- an `in` token of line i stands in `out` of this or a later line; one that is never put out is fine
pub record TakenEarlyAt (es : List Event) (i : ℕ) : Type 0 where
  pub token : ℕ
  pub line : ℕ
  pub later : i ≤ line
  pub inside : line < length es
  pub taken : has token (ins_at es i) ≡ true
  pub given : has token (outs_at es line) ≡ true

-- the lines of events, numbered from k on
abbrev pub print_from : ℕ → List Event → List (List ℕ)
print_from k [] = []
print_from k (e ∷ es) = print_line k e ∷ print_from (k + 1) es

-- each as a line can say it, with no address bit past its prefix and `from` not above `to`
abbrev pub AllWritten : List Event → Type 0
AllWritten [] = Unit {0}
AllWritten (e ∷ es) = (EventWritten e × (clear_event e ≡ true) × (range_kept e ≡ true)) × AllWritten es

-- what is accepted: a text within the limits whose lines are those of the events, with no token twice and none too early, and no line
-- that the time rule puts behind a later one
pub record IsTrace (delay : ℕ) (s : List ℕ) (es : List Event) : Type 0 where
  pub bytes : length s ≤ 65535
  pub ended : ends_with_lf s ≡ true
  pub few : length es ≤ 256
  pub printed : lines s ≡ print_from 0 es
  pub written : AllWritten es
  pub once : (j : ℕ) → j < length es → TwiceAt es j → ⊥
  pub in_time : (i : ℕ) → i < length es → TakenEarlyAt es i → ⊥
  pub forward : (i : ℕ) → i < length es → BackwardAt delay es i → ⊥
