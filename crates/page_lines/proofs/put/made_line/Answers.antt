use Rattle.page_lines.proofs.Made.{line_made}
use Rattle.page_lines.proofs.put.made_line.Goals as goal

pub returns : goal.returns
returns c =
    line_made c.args.l c.requires c.put_in.ensures.put.bytes c.put_in-2.ensures.put.bytes c.put_in-3.ensures.put.bytes
    c.put_word.ensures.put.bytes c.put_word-2.ensures.put.bytes c.put_priority.ensures.put.bytes c.put_priority-2.ensures.put.bytes
    c.put_byte.ensures
