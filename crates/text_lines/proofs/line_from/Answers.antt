use Rattle.text_lines.specs.Inner.{first_line}
use Rattle.text_lines.proofs.line_from.Goals as goal

pub returns : goal.returns
unfolding first_line
returns c = cc
