use Rattle.page_columns.proofs.Putting.{right_put}
use Rattle.page_columns.proofs.put_right.Goals as goal

pub returns : goal.returns
returns c = record { put = (right_put _ _ c.saturating_sub-rest.ensures c.requires.1 c.requires.2 c.put_blanks-n.ensures.put c.put_bytes.ensures).0; upper_bound = (right_put _ _ c.saturating_sub-rest.ensures c.requires.1 c.requires.2 c.put_blanks-n.ensures.put c.put_bytes.ensures).1 }
