use mathlib.Core.Path.{refl}
use Rattle.list_verdicts.specs.Kinds.{pairs, ordered, commuting, listed}
use Rattle.list_pairs.proofs.counts.no_counts.Goals as goal

pub returns : goal.returns
returns c pairs = refl
returns c ordered = refl
returns c commuting = refl
returns c listed = refl
