-- The invariant: no line before k puts out a token which an earlier line puts out.
use Rattle.std.proofs.Common.{◌≡◌, ℕ, ◌<◌, false}
use Rattle.trace_text.specs.TraceText.{twice}
use Rattle.trace_text.proofs.tokens.twice.Given as goal

abbrev pub invariant-loop-k : goal.invariant-loop-k
invariant-loop-k l = (i : ℕ) → i < l.k → twice l.events i ≡ false
