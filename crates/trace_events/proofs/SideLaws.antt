-- What a quick look at two events tells of direct precedence. Assumes nothing.
use Prim.Native.Nat.{ℕ, zero, suc, ◌+◌}
use mathlib.Core.Path.{◌≡◌, refl, sym, ap, ◌∙◌}
use mathlib.Core.List.{List, [], ◌∷◌}
use mathlib.Core.Bool.{Bool, true, false, not, ◌&&◌, ◌||◌, or-true, or-false, true≢false}
use native.Mathlib.Omega.{arith}
use lib.Dec.{ltb}
use lib.ListN.{take}
use borrow.Author.Tests.{lt-ltb}
use Rattle.basics.specs.Searches.{shares}
use Rattle.basics.proofs.Booleans.{and_cases, or_cases, or_left, or_right}
use Rattle.trace_events.specs.Types.{Operation, Tokens, Head, Event}
use Rattle.trace_events.specs.Events.{tokens_of, is_message, barrier_orders, is_handled, is_received}
use Rattle.trace_events.specs.Precedence.{barrier_step, token_step, line_step}
use Rattle.trace_events.specs.Clocks.{time_step}
use Rattle.trace_events.specs.Inner.{precedes, side_of, side_later, side_step, may_pass_to}

-- of two events that switches handle, not both are `pkt` exactly if one is ordered by barriers
not_both_packets : (o p : Operation)
    → (is_handled o && is_handled p && not (is_received o && is_received p)) ≡ (is_handled o && is_handled p && (barrier_orders o || barrier_orders p))
not_both_packets Operation.Other p = refl
not_both_packets (Operation.Barrier w) p = refl
not_both_packets (Operation.Message w) p = refl
not_both_packets (Operation.Table w o) Operation.Other = refl
not_both_packets (Operation.Table w o) (Operation.Barrier v) = sides (is_message o)
  where
    sides : (b : Bool) → not (not b && false) ≡ (b || true)
    sides true = refl
    sides false = refl
not_both_packets (Operation.Table w o) (Operation.Message v) = sides (is_message o)
  where
    sides : (b : Bool) → not (not b && false) ≡ (b || true)
    sides true = refl
    sides false = refl
not_both_packets (Operation.Table w o) (Operation.Table v p) = sides (is_message o) (is_message p)
  where
    sides : (b c : Bool) → not (not b && not c) ≡ (b || c)
    sides true c = refl
    sides false true = refl
    sides false false = refl

-- the time rule, by both sides
pub side_later_lem : (delay : ℕ) (a b : Event) → side_later delay (side_of a.head a.operation) (side_of b.head b.operation) ≡ time_step delay a b
unfolding side_later side_of time_step
side_later_lem delay a b = ap (λ x. x && ltb (a.head.to + delay) b.head.from) (sym (not_both_packets a.operation b.operation))

none_taken : (n : ℕ) (ts : List ℕ) → ltb 0 n ≡ false → take n ts ≡ []
none_taken zero ts e = refl
none_taken (suc n) ts e = absurd (true≢false (sym (lt-ltb 0 (suc n) (omega arith)) ∙ e))

no_tokens_lem : (s : Tokens) → ltb 0 s.count ≡ false → tokens_of s ≡ []
unfolding tokens_of
no_tokens_lem s e = none_taken s.count _ e

none_first : (ts : List ℕ) → shares [] ts ≡ false
unfolding shares
none_first ts = refl

none_shared : (ts : List ℕ) → shares ts [] ≡ false
unfolding shares
none_shared [] = refl
none_shared (t ∷ ts) = none_shared ts

no_token_step : (g h : Head) → (ltb 0 g.outs.count && ltb 0 h.ins.count) ≡ false → token_step g h ≡ false
unfolding token_step
no_token_step g h e =
    and_cases (ltb 0 g.outs.count) (ltb 0 h.ins.count) e
    (λ f. ap (λ ss. shares ss (tokens_of h.ins)) (no_tokens_lem g.outs f) ∙ none_first (tokens_of h.ins))
    (λ f. ap (shares (tokens_of g.outs)) (no_tokens_lem h.ins f) ∙ none_shared (tokens_of g.outs))

module _ (delay : ℕ) (a b : Event) where
  abbrev stepped : Bool
  stepped = side_step delay (side_of a.head a.operation) (side_of b.head b.operation)

  step_is : stepped ≡ (barrier_step a.operation b.operation || time_step delay a b)
  unfolding side_step side_of barrier_step
  step_is = ap (λ x. barrier_step a.operation b.operation || x) (side_later_lem delay a b)

  -- by a barrier step or the time rule
  pub by_side : stepped ≡ true → precedes delay a b ≡ true
  unfolding precedes line_step
  by_side e =
      or_cases (barrier_step a.operation b.operation) (time_step delay a b) (sym step_is ∙ e)
      (λ f. rw (f, or-true) refl)
      (λ f. rw (f, or-true) refl)

  -- by a token, where there is neither
  pub by_token : stepped ≡ false → precedes delay a b ≡ token_step a.head b.head
  unfolding precedes line_step
  by_token e =
      let f = sym step_is ∙ e in
      rw (or_left (barrier_step a.operation b.operation) (time_step delay a b) f, or_right (barrier_step a.operation b.operation) (time_step delay a b) f, or-false, or-false) refl

  -- by no step
  pub by_neither : stepped ≡ false → may_pass_to (side_of a.head a.operation) (side_of b.head b.operation) ≡ false → precedes delay a b ≡ false
  unfolding may_pass_to side_of
  by_neither e f = by_token e ∙ no_token_step a.head b.head f
