use Rattle.trace_events.specs.Inner.{side_of}
use Rattle.trace_events.proofs.side.side_of.Goals as goal

pub returns : goal.returns
unfolding side_of
returns c = cc
