use Rattle.page_columns.proofs.Putting.{left_put}
use Rattle.page_columns.proofs.put_left.Goals as goal

pub returns : goal.returns
returns c = record { put = (left_put _ _ c.saturating_sub-rest.ensures c.requires.1 c.requires.2 c.put_bytes-n.ensures c.put_blanks.ensures.put).0; upper_bound = (left_put _ _ c.saturating_sub-rest.ensures c.requires.1 c.requires.2 c.put_bytes-n.ensures c.put_blanks.ensures.put).1 }
