use Rattle.inputs.proofs.Both.{both_read}
use Rattle.inputs.proofs.read_both.Goals as goal

pub returns-clause-value : goal.returns-clause-value
returns-clause-value c = both_read _ _ _ _ c.read_trace.ensures c.read_tables.ensures
