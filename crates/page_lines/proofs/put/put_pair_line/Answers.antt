use Rattle.page_lines.proofs.Made.{line_put}
use Rattle.page_lines.proofs.put.put_pair_line.Goals as goal

pub returns : goal.returns
returns c = record { put = (line_put c.args.l c.requires.1 c.made_line-line.ensures c.put_bytes.ensures).0; value = (line_put c.args.l c.requires.1 c.made_line-line.ensures c.put_bytes.ensures).1 }
