-- What a line reader hands out. Assumes nothing.
use Prim.Native.Nat.{ℕ, ◌+◌, ◌≤◌, ◌<◌}
use mathlib.Core.List.{List, [], ◌∷◌}
use mathlib.Core.Path.{◌≡◌, ap, ◌∙◌}
use native.Mathlib.Omega.{arith}
use lib.ListN.{length, drop, drop_of_length-le, length-drop}
use lib.Seq.{drop-drop, length-take-le}
use Rattle.text_lines.specs.Lines.{lines}
use Rattle.text_lines.specs.Inner.{line_length, first_line}
use Rattle.text_lines.proofs.Lines.{lines_cons}
use Rattle.text_lines.proofs.Laws.{line_within}

-- ---- from the position `at` on: no line is left, or one more than past its LF
pub left_none : (s : List ℕ) (at : ℕ) → length s ≤ at → lines (drop at s) ≡ []
unfolding lines
left_none s at h = rw (drop_of_length-le s)

pub left_more : (s : List ℕ) (at : ℕ) (line : List ℕ) → at < length s → line ≡ first_line (drop at s) → lines (drop at s) ≡ line ∷ lines (drop (at + (length line + 1)) s)
unfolding first_line
left_more s at line h e =
    let t = drop at s in
    let n : length line ≡ line_length t = ap length e ∙ length-take-le (line_length t) t (line_within t) in
    lines_cons t (omega (arith, length-drop at s)) ∙ rw (drop-drop (line_length t + 1) at s, n, e)
