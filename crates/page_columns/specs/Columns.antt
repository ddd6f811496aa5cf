-- Texts that stand in columns: a line is fields side by side, each filled up with blanks.
use Rattle.std.specs.Prelude.{List, [], ◌∷◌, ◌++◌, ◌≡◌, ℕ, suc, ◌-◌, ◌≤◌, length, take, drop, replicate}

-- so many blanks
unfoldable pub blanks : ℕ → List ℕ
blanks n = replicate n 32

-- right-justified, and left-justified, in so many columns
unfoldable pub right : ℕ → List ℕ → List ℕ
right w text = blanks (w - length text) ++ text

unfoldable pub left : ℕ → List ℕ → List ℕ
left w text = text ++ blanks (w - length text)

-- fields side by side
abbrev pub beside : List (List ℕ) → List ℕ
beside [] = []
beside (f ∷ fs) = f ++ beside fs

-- what stands in the columns from a first one to a last one; the first of a line is column 1
unfoldable pub columns : ℕ → ℕ → List ℕ → List ℕ
columns from to line = take (suc to - from) (drop (from - 1) line)

-- a text stands in these columns, whole, right-justified or left-justified; or only blanks do
abbrev pub StandsRight : ℕ → ℕ → List ℕ → List ℕ → Type 0
StandsRight from to text line = (length text ≤ suc to - from) × (columns from to line ≡ right (suc to - from) text)

abbrev pub StandsLeft : ℕ → ℕ → List ℕ → List ℕ → Type 0
StandsLeft from to text line = (length text ≤ suc to - from) × (columns from to line ≡ left (suc to - from) text)

abbrev pub Blank : ℕ → ℕ → List ℕ → Type 0
Blank from to line = columns from to line ≡ blanks (suc to - from)
