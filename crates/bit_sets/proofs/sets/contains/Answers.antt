use borrow.Author.Rules.{rules}
use Rattle.bit_sets.specs.Inner.{member, word_bit}
use Rattle.bit_sets.proofs.sets.contains.Goals as goal

pub returns : goal.returns
unfolding member word_bit
returns g c = search rules
