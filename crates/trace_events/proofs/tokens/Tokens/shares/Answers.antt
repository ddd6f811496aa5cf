use Rattle.trace_events.specs.Events.{tokens_of}
use Rattle.trace_events.proofs.TokenLaws.{shares_tested}
use Rattle.trace_events.proofs.tokens.Tokens.shares.Goals as goal

pub returns : goal.returns
returns c = cc (shares_tested c.args.self (tokens_of c.args.other))
