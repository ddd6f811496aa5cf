use Rattle.trace_events.proofs.TokenLaws.{has_tested}
use Rattle.trace_events.proofs.tokens.Tokens.has.Goals as goal

pub returns : goal.returns
returns c = has_tested _ _
