use mathlib.Core.Path.{ap, ◌∙◌}
use Rattle.exports_values.specs.Values.{normal_as}
use borrow.Author.Rules.{rules}
use Rattle.exports.proofs.gellunka_normalise.Goals as goal

pub returns : goal.returns
returns c = record { value = c.normal_as.ensures ∙ ap (normal_as _) c.normalise-answer.ensures.value; out_after = c.normalise-answer.ensures.out_after }
