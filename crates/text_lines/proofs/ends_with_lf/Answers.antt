use borrow.Author.Rules.{rules}
use Rattle.text_lines.specs.Lines.{ends_with_lf}
use Rattle.text_lines.proofs.ends_with_lf.Goals as goal

pub returns : goal.returns
unfolding ends_with_lf
returns c = search rules
