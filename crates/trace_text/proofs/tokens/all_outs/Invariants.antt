-- The invariant: the array holds what the lines before k put out.
use Rattle.std.proofs.Common.{◌≡◌, length, take}
use Rattle.trace_text.specs.Inner.{all_outs}
use Rattle.trace_text.proofs.tokens.all_outs.Given as goal

abbrev pub invariant-loop-k : goal.invariant-loop-k
invariant-loop-k l = (take l.k l.all ≡ all_outs (take l.k l.events)) × (length l.all ≡ 256)
