use Rattle.std.proofs.Common.{◌∙◌, sym, below_more, arith, length}
use Rattle.basics.proofs.Searches.{lowest_at, lowest_nowhere}
use Rattle.trace_text.specs.TraceText.{twice}
use Rattle.trace_text.proofs.TokenChecks.{twice_by_outs}
use Rattle.trace_text.proofs.tokens.twice.Goals as goal

pub loop-k-preserved : goal.loop-k-preserved
loop-k-preserved c = below_more _ _ c.loop-k.invariant (sym (twice_by_outs _ _ c.requires _ c.loop-k-test.true c.puts_out.ensures) ∙ c.if-puts_out.false)

pub returns-then-puts_out : goal.returns-then-puts_out
returns-then-puts_out c = sym (lowest_at (twice c.args.events.now) _ c.loop-k.k c.loop-k-test.true (sym (twice_by_outs _ _ c.requires _ c.loop-k-test.true c.puts_out.ensures) ∙ c.if-puts_out.true) c.loop-k.invariant)

pub returns : goal.returns
returns c = sym (lowest_nowhere (twice c.args.events.now) (length c.args.events.now) (λ i l. c.loop-k.invariant i (omega arith)))
