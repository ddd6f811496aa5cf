use Rattle.std.proofs.Common.{rules}
use Rattle.text_numbers.proofs.Keys.{word_by}
use Rattle.text_numbers.proofs.read.word.Goals as goal

pub returns : goal.returns
returns g c = word_by _ _ _ _ c.keyed.ensures (λ p. search rules)
