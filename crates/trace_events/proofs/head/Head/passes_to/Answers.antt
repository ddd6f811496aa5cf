use Rattle.trace_events.specs.Precedence.{token_step}
use Rattle.trace_events.proofs.head.Head.passes_to.Goals as goal

pub returns : goal.returns
unfolding token_step
returns c = c.shares.ensures
