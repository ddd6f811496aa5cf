-- The text of a number: one text for each.
use Rattle.std.specs.Prelude.{ℕ, zero, suc, ◌+◌, ◌-◌, ◌/◌, ◌%◌, cond, List, [], ◌∷◌, ◌++◌, ltb}

-- the decimal digits of a number that has at most so many
unfoldable pub decimal : ℕ → ℕ → List ℕ
decimal zero n = []
decimal (suc k) n = cond (ltb n 10) ((48 + n) ∷ []) (decimal k (n / 10) ++ ((48 + n % 10) ∷ []))

-- a number below 10 ^ 20 in decimal, without leading zeros
unfoldable pub print_number : ℕ → List ℕ
print_number n = decimal 20 n

-- the hexadecimal digit of a number below 16, `0` to `9` or `a` to `f`
unfoldable pub hex_digit : ℕ → ℕ
hex_digit n = cond (ltb n 10) (48 + n) (97 + (n - 10))

-- the last k hexadecimal digits of a number
unfoldable pub hexadecimal : ℕ → ℕ → List ℕ
hexadecimal zero n = []
hexadecimal (suc k) n = hexadecimal k (n / 16) ++ (hex_digit (n % 16) ∷ [])

-- a number below 2 ^ 32 as eight hexadecimal digits
unfoldable pub print_hex : ℕ → List ℕ
print_hex n = hexadecimal 8 n
