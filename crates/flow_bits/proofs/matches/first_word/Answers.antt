use mathlib.Core.Path.{subst, ap₂, ◌∙◌}
use Rattle.flow_bits.specs.Inner.{joined, InBits, first_word}
use Rattle.flow_bits.proofs.matches.first_word.Goals as goal

pub returns : goal.returns
unfolding first_word
returns c = (c.beside-2.ensures.0 ∙ ap₂ (joined 32) (c.beside.ensures.0 ∙ ap₂ (joined 16) c.of_exact-port.ensures.0 c.of_exact-vlan.ensures.0) c.of_prefix-src.ensures.0, record { port = subst (InBits 16) c.of_exact-port.ensures.0 c.of_exact-port.ensures.1; vlan = subst (InBits 16) c.of_exact-vlan.ensures.0 c.of_exact-vlan.ensures.1; src = subst (InBits 32) c.of_prefix-src.ensures.0 c.of_prefix-src.ensures.1 })
