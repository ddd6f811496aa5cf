use Rattle.rows.specs.Rows.{rows_of}
use Rattle.tables_normal.proofs.Normalising.{rows_accepted}
use Rattle.tables_normal.proofs.normal.normalise.Goals as goal

pub put_normal-requires-clause-range : goal.put_normal-requires-clause-range
put_normal-requires-clause-range c = rows_accepted _ (rows_of c.in_ok-rows.rows) c.in_ok-rows.ensures.answer
