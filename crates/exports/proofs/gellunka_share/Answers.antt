use mathlib.Core.Path.{ap, ◌∙◌}
use Rattle.exports_values.specs.Values.{share_as}
use borrow.Author.Rules.{rules}
use Rattle.exports.proofs.gellunka_share.Goals as goal

pub returns : goal.returns
returns c = c.share_as.ensures ∙ ap (share_as _) c.share-answer.ensures
