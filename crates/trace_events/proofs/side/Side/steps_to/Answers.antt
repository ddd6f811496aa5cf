use Rattle.trace_events.specs.Inner.{side_step}
use Rattle.trace_events.proofs.side.Side.steps_to.Goals as goal

pub returns : goal.returns
unfolding side_step
returns c = cc
