-- Inner: how large the counts may be where code adds to them or prints them.
use Rattle.std.specs.Prelude.{◌≤◌}
use Rattle.call_answers.specs.Types.{Counts}

-- small enough to count on
pub record Small (c : Counts) : Type 0 where
  pub pairs_small : c.pairs ≤ 65535
  pub ordered_small : c.ordered ≤ 65535
  pub commuting_small : c.commuting ≤ 65535
  pub listed_small : c.listed ≤ 65535
