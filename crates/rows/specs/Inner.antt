-- Inner: what a pass over rows asks of a filter.
use Rattle.std.specs.Prelude.{ℕ}
use Rattle.rows.specs.Types.{Filter}

-- the first of n rows that may pass: past the last where none does
abbrev pub first_for : Filter → ℕ → ℕ
first_for Filter.Nothing n = n
first_for (Filter.Same k) n = 0
first_for (Filter.Within m) n = 0
first_for (Filter.Clash k) n = 0
first_for (Filter.Fits p) n = 0
