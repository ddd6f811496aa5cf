use borrow.Author.Rules.{rules}
use Rattle.happens_before.proofs.Lacking.{lacks_test}
use Rattle.happens_before.proofs.sets.lacks.Goals as goal

pub returns : goal.returns
returns c = lacks_test c.args.word c.args.other (search rules)
