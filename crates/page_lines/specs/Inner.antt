-- Inner: the ranges that the columns of a line hold.
use Rattle.std.specs.Prelude.{ℕ, ◌<◌, Option, None, Some}
use Rattle.page_lines.specs.Types.{PairLine}

abbrev pub PriorityInRange : Option ℕ → Type 0
PriorityInRange None = Unit {0}
PriorityInRange (Some n) = n < 65536

pub record LineInRange (l : PairLine) : Type 0 where
  pub lower : l.lower.event < 256
  pub higher : l.higher.event < 256
  pub switch : l.switch < 16
  pub lower_priority : PriorityInRange l.lower.priority
  pub higher_priority : PriorityInRange l.higher.priority
