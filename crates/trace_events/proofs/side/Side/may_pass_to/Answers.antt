use Rattle.trace_events.specs.Inner.{may_pass_to}
use Rattle.trace_events.proofs.side.Side.may_pass_to.Goals as goal

pub returns : goal.returns
unfolding may_pass_to
returns c = cc
