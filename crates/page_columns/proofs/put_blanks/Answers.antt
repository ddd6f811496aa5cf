use Rattle.page_columns.proofs.Putting.{blanks_put}
use Rattle.page_columns.proofs.put_blanks.Goals as goal

pub returns-clause-put : goal.returns-clause-put
returns-clause-put c = blanks_put _ c.requires.1 c.put_bytes.ensures
