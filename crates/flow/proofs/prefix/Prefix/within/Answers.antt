use mathlib.Core.Path.{sym, ◌∙◌}
use native.Mathlib.Omega.{arith}
use Rattle.flow.proofs.PrefixField.{within_shorter, within_longer}
use Rattle.flow.proofs.prefix.Prefix.within.Goals as goal

pub returns-then-self-min : goal.returns-then-self-min
returns-then-self-min c = sym (within_shorter c.args.self c.args.other (omega arith))

pub returns : goal.returns
returns c = c.same_leading.ensures ∙ sym (within_longer c.args.self c.args.other (omega arith))
