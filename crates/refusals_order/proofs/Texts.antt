-- The limits of a text are told in their order; and what the test for address bits past a prefix means. Assumes nothing.
use mathlib.Core.Path.{◌≡◌, refl, sym, ◌∙◌, subst}
use mathlib.Core.Bool.{Bool, true, false, not, cond, true≢false}
use mathlib.Core.Logic.{◌↔◌, inl, inr, ⊎_elim}
use Rattle.std.specs.Prelude.{None, Some}
use mathlib.Core.List.{List, [], ◌∷◌}
use Prim.Native.Nat.{ℕ, ◌-◌, ◌<◌}
use native.Mathlib.Omega.{arith}
use lib.Dec.{eqb, ltb}
use lib.ListN.{length, get_or}
use borrow.Author.Tests.{eqb-false, ne_eqb, ltb-true, lt-ltb, not-true}
use Rattle.basics.proofs.Booleans.{split, and_cases, and_false_right, or_left, or_right}
use Rattle.text_lines.specs.declared.limits.Limit.{Limit}
use Rattle.text_lines.specs.Lines.{lines, ends_with_lf}
use Rattle.text_lines.specs.Limits.{limit_of}
use Rattle.flow.specs.Matches.{prefix_clear, clear}
use Rattle.flow.proofs.PrefixField.{prefix_clear_means}
use Rattle.flow_table.specs.Carried.{carried_of}
use Rattle.text_fields.specs.Written.{PrefixWritten, MatchWritten}
use Rattle.trace_operation.specs.Operations.{CarriedWritten, OperationWritten, clear_carried, clear_operation}
use Rattle.refusals.specs.Checks.{◌▹◌, refuse_if, refuse_limit}
use Rattle.refusals_order.specs.Types.{Refusal, Prefix, Match, Carried, Operation}
use Rattle.refusals_order.specs.Causes.{When}
use Rattle.refusals_order.specs.Texts.{LastNotLf, limit_causes, BitPast, BitInMatch, BitInCarried, BitInOperation}
use Rattle.refusals_order.proofs.Causes.{Tells, then_tells, when_tells}

-- ---- the limits
ended_iff : (s : List ℕ) → (not (ends_with_lf s) ≡ true) ↔ LastNotLf s
unfolding ends_with_lf
ended_iff s = (
  λ e. let f = not-true _ e in
      let a = eqb-false (length s) 0 (or_left _ _ f) in
      (omega arith, eqb-false (get_or s (length s - 1) 0) 10 (or_right (eqb (length s) 0) _ f)),
  λ (a, b). rw (ne_eqb (length s) 0 (omega arith), ne_eqb (get_or s (length s - 1) 0) 10 b) refl,
)

by_limits : (x y z : Bool) (a b c : Refusal)
    → (refuse_if x a ▹ λ _. refuse_if (not y) b ▹ λ _. refuse_if z c) ≡ refuse_limit (cond x (Some Limit.TooLong) (cond y (cond z (Some Limit.TooManyLines) None) (Some Limit.Unended))) a b c
by_limits true y z a b c = refl
by_limits false false z a b c = refl
by_limits false true true a b c = refl
by_limits false true false a b c = refl

pub limit_tells : (s : List ℕ) (long unended many : Refusal) → Tells (refuse_limit (limit_of s) long unended many) (limit_causes s long unended many)
unfolding limit_of
limit_tells s a b c =
    let x = ltb 65535 (length s) in
    let z = ltb 256 (length (lines s)) in
    subst (λ y. Tells y (limit_causes s a b c)) (by_limits x (ends_with_lf s) z a b c)
    (then_tells (refuse_if x a) (λ _. refuse_if (not (ends_with_lf s)) b ▹ λ _. refuse_if z c) (When (65535 < length s) a ∷ []) (When (LastNotLf s) b ∷ When (256 < length (lines s)) c ∷ [])
    (when_tells x (65535 < length s) (ltb-true 65535 (length s), lt-ltb 65535 (length s)) a)
    (λ _ e. then_tells (refuse_if (not (ends_with_lf s)) b) (λ _. refuse_if z c) (When (LastNotLf s) b ∷ []) (When (256 < length (lines s)) c ∷ [])
    (when_tells (not (ends_with_lf s)) (LastNotLf s) (ended_iff s) b)
    (λ _ f. when_tells z (256 < length (lines s)) (ltb-true 256 (length (lines s)), lt-ltb 256 (length (lines s))) c)))

-- ---- address bits
bit_prefix : (p : Prefix) → PrefixWritten p → (prefix_clear p ≡ false) ↔ BitPast p
bit_prefix p w = (
  λ e z. true≢false (sym ((prefix_clear_means p w.value).1 z) ∙ e),
  λ h. split (prefix_clear p) (λ e. absurd (h ((prefix_clear_means p w.value).0 e))) (λ e. e),
)

pub bit_match : (m : Match) → MatchWritten m → (clear m ≡ false) ↔ BitInMatch m
unfolding clear
bit_match m w = (
  λ e. and_cases (prefix_clear m.src) (prefix_clear m.dst) e (λ f. inl ((bit_prefix m.src w.src).0 f)) (λ f. inr ((bit_prefix m.dst w.dst).0 f)),
  λ h. ⊎_elim (λ f. rw ((bit_prefix m.src w.src).1 f) refl) (λ f. and_false_right (prefix_clear m.src) ((bit_prefix m.dst w.dst).1 f)) h,
)

bit_carried : (c : Carried) → CarriedWritten c → (clear_carried c ≡ false) ↔ BitInCarried c
bit_carried (Carried.Packet p) w = (λ e. true≢false e, λ h. absurd h)
bit_carried (Carried.Entry e) w = bit_match e.key.pattern w.key.pattern
bit_carried (Carried.Key k) w = bit_match k.pattern w.pattern
bit_carried (Carried.Match m) w = bit_match m w

pub bit_operation : (o : Operation) → OperationWritten o → (clear_operation o ≡ false) ↔ BitInOperation o
bit_operation Operation.Other w = (λ e. true≢false e, λ h. absurd h)
bit_operation (Operation.Barrier v) w = (λ e. true≢false e, λ h. absurd h)
bit_operation (Operation.Message v) w = (λ e. true≢false e, λ h. absurd h)
bit_operation (Operation.Table v o) w = bit_carried (carried_of o) w.1
