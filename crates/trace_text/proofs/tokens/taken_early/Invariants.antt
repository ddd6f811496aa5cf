-- The invariant: no line before k takes in a token which it or a later line puts out.
use Rattle.std.proofs.Common.{◌≡◌, ℕ, ◌<◌, false}
use Rattle.trace_text.specs.TraceText.{taken_early}
use Rattle.trace_text.proofs.tokens.taken_early.Given as goal

abbrev pub invariant-loop-k : goal.invariant-loop-k
invariant-loop-k l = (i : ℕ) → i < l.k → taken_early l.events i ≡ false
