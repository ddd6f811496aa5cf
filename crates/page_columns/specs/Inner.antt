-- Inner: a right-justified number column by column, as the code puts it.
use Rattle.std.specs.Prelude.{ℕ, ◌+◌, ◌/◌, ◌%◌, cond, ltb}

-- the digit at a power of ten; a blank where the number has none there
unfoldable pub digit_or_blank : ℕ → ℕ → ℕ
digit_or_blank n power = cond (ltb n power) 32 (48 + n / power % 10)
