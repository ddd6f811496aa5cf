use Rattle.std.proofs.Common.{rules}
use Rattle.text_numbers.proofs.Keys.{keyed_by}
use Rattle.text_numbers.proofs.read.long_at.Goals as goal

pub returns : goal.returns
returns c = keyed_by _ _ _ _ c.keyed.ensures (λ p. search rules)
