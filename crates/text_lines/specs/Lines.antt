-- A text as lines, each ended by LF, byte 10.
use Rattle.std.specs.Prelude.{ℕ, ◌-◌, Bool, cond, ◌||◌, List, [], ◌∷◌, ◌++◌, eqb, length, get_or, take}
use Rattle.basics.specs.Text.{bytes}

-- a byte more at the front of the first line
unfoldable pub in_first : ℕ → List (List ℕ) → List (List ℕ)
in_first b [] = (b ∷ []) ∷ []
in_first b (l ∷ ls) = (b ∷ l) ∷ ls

-- the lines, without the LF that ends each; a last line may lack its LF
unfoldable pub lines : List ℕ → List (List ℕ)
lines [] = []
lines (b ∷ s) = cond (eqb b 10) ([] ∷ lines s) (in_first b (lines s))

-- the text of lines, each followed by LF
unfoldable pub unlines : List (List ℕ) → List ℕ
unlines [] = []
unlines (l ∷ ls) = l ++ (bytes "\n" ++ unlines ls)

-- where line n starts: after the lines before it, each with its LF
unfoldable pub line_start : List ℕ → ℕ → ℕ
line_start s n = length (unlines (take n (lines s)))

-- the text is empty, or its last byte is LF
unfoldable pub ends_with_lf : List ℕ → Bool
ends_with_lf s = eqb (length s) 0 || eqb (get_or s (length s - 1) 0) 10
