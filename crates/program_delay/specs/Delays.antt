-- The delay that an argument gives.
use Rattle.std.specs.Prelude.{ℕ, cond, List, length, eqb, Option, None, Some}
use Rattle.text_numbers.specs.Number.{read_number}

-- a value that was read, where the place after it is the text's end
abbrev pub to_end : List ℕ → Option (ℕ × ℕ) → Option ℕ
to_end s None = None
to_end s (Some r) = cond (eqb r.1 (length s)) (Some r.0) None

-- the whole text is a decimal number without leading zeros, at most 4294967295
unfoldable pub delay_of : List ℕ → Option ℕ
delay_of s = to_end s (read_number 4294967295 s 0)
