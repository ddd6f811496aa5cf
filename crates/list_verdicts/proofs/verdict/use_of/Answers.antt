use mathlib.Core.Path.{◌∙◌, ap, subst}
use Rattle.commuting.specs.InnerFootprints.{footprint_of, NarrowEffect}
use Rattle.list_verdicts.specs.Inner.{table_use}
use Rattle.list_verdicts.proofs.verdict.use_of.Goals as goal

pub returns : goal.returns
unfolding table_use
returns c =
    let g = c.of-footprint.ensures.0 ∙ ap footprint_of c.effect_of-effect.ensures in
    (λ i. record { uses = c.uses_table.ensures i; switch = c.switch_of.ensures i; footprint = g i }, subst NarrowEffect c.effect_of-effect.ensures c.of-footprint.ensures.1)
