use Rattle.trace_clocks.proofs.EarliestLaws.{before_more}
use Rattle.trace_clocks.proofs.earliest.Earliest.with_line.Goals as goal

pub returns : goal.returns
returns c = before_more c.smaller-all.ensures c.smaller-messages.ensures
