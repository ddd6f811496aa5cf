use mathlib.Core.Path.{ap, ◌∙◌}
use Rattle.exports_values.specs.Values.{list_as}
use borrow.Author.Rules.{rules}
use Rattle.exports.proofs.gellunka_list_races.Goals as goal

pub returns : goal.returns
returns c = record { value = c.list_as.ensures ∙ ap (list_as _) c.list_races-answer.ensures.value; out_after = c.list_races-answer.ensures.out_after }
