use Rattle.trace_text.proofs.TokenChecks.{outs_put_nothing}
use Rattle.trace_text.proofs.tokens.puts_out.Goals as goal

pub returns-then-tokens-eq0 : goal.returns-then-tokens-eq0
returns-then-tokens-eq0 c = outs_put_nothing c.args.tokens c.args.outs.now c.if-tokens-eq0.true
