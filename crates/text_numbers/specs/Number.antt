-- Reading numbers.
use Rattle.std.specs.Prelude.{ℕ, zero, suc, ◌+◌, ◌-◌, ◌*◌, Bool, cond, ◌&&◌, List, [], ◌∷◌, get_or, drop, leb, eqb, Option, None, Some, option_and_then}
use Rattle.text_numbers.specs.Reading.{Reader}

-- `0` to `9`
unfoldable pub is_digit : ℕ → Bool
is_digit b = leb 48 b && leb b 57

-- the digits at the front of a text, onto the value v of those before the place; none as soon as the value is above max
unfoldable pub read_digits : ℕ → ℕ → List ℕ → ℕ → Option (ℕ × ℕ)
read_digits max v [] at = Some (v, at)
read_digits max v (b ∷ s) at =
    cond (is_digit b)
    (cond (leb (v * 10 + (b - 48)) max) (read_digits max (v * 10 + (b - 48)) s (at + 1)) None)
    (Some (v, at))

-- a decimal number without leading zeros, at most max
unfoldable pub read_number : ℕ → Reader ℕ
read_number max s at =
    cond (is_digit (get_or s at 0))
    (cond (eqb (get_or s at 0) 48)
    (cond (is_digit (get_or s (at + 1) 0)) None (Some (0, at + 1)))
    (read_digits max 0 (drop at s) at))
    None

-- the value of a lowercase hexadecimal digit, `0` to `9` or `a` to `f`
unfoldable pub hex_value : ℕ → Option ℕ
hex_value b = cond (is_digit b) (Some (b - 48)) (cond (leb 97 b && leb b 102) (Some (b - 97 + 10)) None)

-- k hexadecimal digits from a place on, onto the value v of those before it
unfoldable pub read_hex_digits : ℕ → ℕ → Reader ℕ
read_hex_digits zero v s at = Some (v, at)
read_hex_digits (suc k) v s at = option_and_then (λ d. read_hex_digits k (v * 16 + d) s (at + 1)) (hex_value (get_or s at 0))

-- eight lowercase hexadecimal digits
unfoldable pub read_hex : Reader ℕ
read_hex = read_hex_digits 8 0
