use mathlib.Core.Path.{subst, ap₂, ◌∙◌}
use Rattle.flow_bits.specs.Inner.{joined, InBits, third_word}
use Rattle.flow_bits.proofs.matches.third_word.Goals as goal

pub returns : goal.returns
unfolding third_word
returns c = (c.beside-2.ensures.0 ∙ ap₂ (joined 16) (c.beside.ensures.0 ∙ ap₂ (joined 8) c.of_length-src_length.ensures.0 c.of_length-dst_length.ensures.0) c.of_exact-dport.ensures.0, record { src_length = subst (InBits 8) c.of_length-src_length.ensures.0 c.of_length-src_length.ensures.1; dst_length = subst (InBits 8) c.of_length-dst_length.ensures.0 c.of_length-dst_length.ensures.1; dport = subst (InBits 16) c.of_exact-dport.ensures.0 c.of_exact-dport.ensures.1 })
