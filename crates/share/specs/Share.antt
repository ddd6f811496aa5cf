-- Document 01, "The share": how many of the unordered pairs commute, in thousandths.
use Rattle.std.specs.Prelude.{cond, ℕ, ◌+◌, ◌*◌, ◌/◌, ◌%◌, eqb}
use Rattle.share.specs.Types.{Counts, Share}

-- the unordered pairs: those that commute and those listed
abbrev pub unordered : Counts → ℕ
unordered c = c.commuting + c.listed

-- where no pair is unordered
abbrev pub no_share : Share
no_share = record { quotient = 0; remainder = 0; divisor = 0 }

-- 1,000 times the commuting pairs, divided by the unordered ones
unfoldable pub share_of : Counts → Share
share_of c =
    cond (eqb (unordered c) 0) no_share
    (record { quotient = 1000 * c.commuting / unordered c; remainder = 1000 * c.commuting % unordered c; divisor = unordered c })
