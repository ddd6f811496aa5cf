use mathlib.Core.Path.{ap, ◌∙◌}
use Rattle.exports_values.specs.Values.{trials_as}
use borrow.Author.Rules.{rules}
use Rattle.exports.proofs.gellunka_try_orders.Goals as goal

pub returns : goal.returns
returns c = record { value = c.trials_as.ensures ∙ ap (trials_as _ _) c.try_orders-answer.ensures.value; out_after = c.try_orders-answer.ensures.out_after }
