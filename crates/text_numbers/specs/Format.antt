-- A text format: a printer and a reader that undo each other.
use Rattle.std.specs.Prelude.{ℕ, ◌+◌, false, List, ◌++◌, ◌≡◌, length, get_or, drop, eqb, Some}
use Rattle.text_numbers.specs.Reading.{Reader}
use Rattle.text_numbers.specs.Number.{is_digit}

-- the next byte is neither a digit nor a comma: no number and no list of numbers goes on
pub record Ends (rest : List ℕ) : Type 0 where
  pub digit : is_digit (get_or rest 0 0) ≡ false
  pub comma : eqb (get_or rest 0 0) 44 ≡ false

-- texts that may stand behind any other: each ends what stands before it, with what comes next where it is empty
abbrev pub Follows : {A : Type 0} → (A → List ℕ) → Type 0
Follows {A} print = (a : A) (rest : List ℕ) → Ends rest → Ends (print a ++ rest)

-- the values that are ok, the text of each, and the reader of those texts
pub record Format {A : Type 0} (ok : A → Type 0) (print : A → List ℕ) (read : Reader A) : Type 0 where
  -- the text of a value reads as that value
  pub reads : (a : A) → ok a → (s : List ℕ) (at : ℕ) (rest : List ℕ) → Ends rest → drop at s ≡ print a ++ rest → read s at ≡ Some (a, at + length (print a))
  -- and nothing else does
  pub only : (s : List ℕ) (at : ℕ) (a : A) (n : ℕ) → read s at ≡ Some (a, n) → ok a × (drop at s ≡ print a ++ drop n s) × (n ≡ at + length (print a))
