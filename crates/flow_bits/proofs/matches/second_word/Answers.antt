use mathlib.Core.Path.{subst, ap₂, ◌∙◌}
use Rattle.flow_bits.specs.Inner.{joined, InBits, second_word}
use Rattle.flow_bits.proofs.matches.second_word.Goals as goal

pub returns : goal.returns
unfolding second_word
returns c = (c.beside-2.ensures.0 ∙ ap₂ (joined 32) c.of_prefix-dst.ensures.0 (c.beside.ensures.0 ∙ ap₂ (joined 16) c.of_exact-proto.ensures.0 c.of_exact-sport.ensures.0), record { dst = subst (InBits 32) c.of_prefix-dst.ensures.0 c.of_prefix-dst.ensures.1; proto = subst (InBits 16) c.of_exact-proto.ensures.0 c.of_exact-proto.ensures.1; sport = subst (InBits 16) c.of_exact-sport.ensures.0 c.of_exact-sport.ensures.1 })
