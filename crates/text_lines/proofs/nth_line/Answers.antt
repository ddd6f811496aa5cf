use Rattle.text_lines.proofs.Laws.{line_found}
use Rattle.text_lines.proofs.nth_line.Goals as goal

pub returns : goal.returns
returns c = cc (line_found c.args.number c.args.text.now)
