-- Document 01, "Trace text": at most 65,535 bytes and 256 lines, each ended by LF. The first limit that a text exceeds.
use Rattle.std.specs.Prelude.{ℕ, ◌≤◌, ◌≡◌, true, cond, List, ltb, length, Option, None, Some}
use Rattle.text_lines.specs.Lines.{lines, ends_with_lf}
use Rattle.text_lines.specs.declared.limits.Limit.{Limit}

unfoldable pub limit_of : List ℕ → Option Limit
limit_of s =
    cond (ltb 65535 (length s)) (Some Limit.TooLong)
    (cond (ends_with_lf s)
    (cond (ltb 256 (length (lines s))) (Some Limit.TooManyLines) None)
    (Some Limit.Unended))

-- it exceeds none
pub record Within (s : List ℕ) : Type 0 where
  pub bytes : length s ≤ 65535
  pub ended : ends_with_lf s ≡ true
  pub few : length (lines s) ≤ 256
