-- The invariant: whether one of the tokens stands in those looked at so far.
use Rattle.std.proofs.Common.{◌≡◌, take}
use Rattle.std.specs.List.{list_any}
use Rattle.trace_events.specs.Events.{tokens_of}
use Rattle.trace_text.proofs.TokenChecks.{outs_put}
use Rattle.trace_text.proofs.tokens.puts_out.Given as goal

abbrev pub invariant-loop-o : goal.invariant-loop-o
invariant-loop-o l = l.found ≡ list_any (outs_put (tokens_of l.tokens)) (take l.o-index l.outs)
