use Rattle.trace_clocks.specs.Inner.{kept_before}
use Rattle.trace_clocks.proofs.earliest.Earliest.is_before.Goals as goal

pub returns-then-line : goal.returns-then-line
unfolding kept_before
returns-then-line c = rw c.if-line.true (cc)

pub returns-else-line : goal.returns-else-line
unfolding kept_before
returns-else-line c = rw c.if-line.false
