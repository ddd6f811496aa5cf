-- Document 01, "The share", in its words and without a division. (`share_iff`, proofs/Theorems.antt: this is `share_of` and no other.)
use Rattle.std.specs.Prelude.{◌≡◌, ◌+◌, ◌*◌, ◌<◌}
use Rattle.share.specs.Types.{Counts, Share}

-- quotient times divisor and the remainder give 1,000 times the commuting pairs back, the remainder is below the divisor; where no
-- pair is unordered, all three are 0
pub record IsShare (c : Counts) (x : Share) : Type 0 where
  pub by : x.divisor ≡ c.commuting + c.listed
  pub product : x.quotient * x.divisor + x.remainder ≡ 1000 * c.commuting
  pub below : 0 < x.divisor → x.remainder < x.divisor
  pub none : x.divisor ≡ 0 → (x.quotient ≡ 0) × (x.remainder ≡ 0)
