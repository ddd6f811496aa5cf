-- Inner: how many bytes a line takes, and how many lines end.
use Rattle.std.specs.Prelude.{ℕ, ◌+◌, cond, List, [], ◌∷◌, eqb, take}

-- how many bytes stand before the first LF, all of them where there is none
unfoldable pub line_length : List ℕ → ℕ
line_length [] = 0
line_length (b ∷ s) = cond (eqb b 10) 0 (line_length s + 1)

-- the line at the front of a text, without its LF
unfoldable pub first_line : List ℕ → List ℕ
first_line s = take (line_length s) s

-- how many LF there are
unfoldable pub newlines : List ℕ → ℕ
newlines [] = 0
newlines (b ∷ s) = cond (eqb b 10) (newlines s + 1) (newlines s)
