use Rattle.page_text.proofs.Putting.{line_then, last_line}
use Rattle.page_text.proofs.counts.put_counts.Goals as goal

pub returns : goal.returns
returns c =
    line_then _ _ c.put_count-n.ensures.put
    (line_then _ _ c.put_count-n-2.ensures.put
    (line_then _ _ c.put_count-n-3.ensures.put
    (last_line _ c.put_count.ensures.put)))
