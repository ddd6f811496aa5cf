use mathlib.Core.Path.{sym, ◌∙◌, ap}
use Rattle.flow.specs.Inner.{same_leading}
use Rattle.flow.proofs.PrefixField.{overlaps_shorter}
use Rattle.flow.proofs.prefix.Prefix.overlaps.Goals as goal

pub returns : goal.returns
returns c = c.same_leading.ensures ∙ ap (λ n. same_leading c.args.self.value c.args.other.value n) c.min-n.ensures ∙ sym (overlaps_shorter c.args.self c.args.other)
