use mathlib.Core.Path.{ap, ◌∙◌}
use Rattle.exports_values.specs.Values.{page_as}
use borrow.Author.Rules.{rules}
use Rattle.exports.proofs.gellunka_page.Goals as goal

pub returns : goal.returns
returns c = record { value = c.page_as.ensures ∙ ap (page_as _) c.page-answer.ensures.value; out_after = c.page-answer.ensures.out_after }
