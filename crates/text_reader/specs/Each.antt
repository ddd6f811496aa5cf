-- The lines of a text read one after the other, each with its number: the values of all, or the first refusal.
use Rattle.std.specs.Prelude.{ℕ, ◌+◌, List, [], ◌∷◌, Result, Ok, Err}

-- a line's value before those of the later lines; the first line that is refused decides
abbrev pub in_front : {R A : Type 0} → Result A R → Result (List A) R → Result (List A) R
in_front (Err r) rest = Err r
in_front (Ok a) (Err r) = Err r
in_front (Ok a) (Ok vs) = Ok (a ∷ vs)

-- the lines from line k on
unfoldable pub read_each : {R A : Type 0} → (ℕ → List ℕ → Result A R) → ℕ → List (List ℕ) → Result (List A) R
read_each read k [] = Ok []
read_each read k (l ∷ ls) = in_front (read k l) (read_each read (k + 1) ls)
