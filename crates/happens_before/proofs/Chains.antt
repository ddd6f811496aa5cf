-- The test of happens-before finds every chain of one or more steps to later lines (`before_iff`); a chain goes to a later line (`chain_later`); what happens
-- before an event is the union of its direct predecessors and of what happens before them (`row_union`). Assumes nothing.
use Prim.Native.Nat.{ℕ, zero, suc, ◌<◌, ◌≤◌}
use native.Mathlib.Nat.{le_refl}
use native.Mathlib.Omega.{arith}
use mathlib.Core.Path.{◌≡◌, refl, ap, ◌∙◌}
use mathlib.Core.Logic.{◌↔◌}
use mathlib.Core.Bool.{Bool, true, false, ◌&&◌, ◌||◌, false≢true, or-true}
use mathlib.Core.List.{List}
use lib.Dec.{eqb, ltb}
use lib.ListN.{length}
use borrow.Author.Tests.{eq-eqb, eqb-true, ltb-true}
use Rattle.basics.proofs.Booleans.{split, and_left, and_right, and_intro, or_cases}
use Rattle.trace_events.specs.Events.{event_at}
use Rattle.basics.specs.Searches.{any_below}
use Rattle.trace_events.specs.Inner.{precedes}
use Rattle.basics.proofs.Searches.{any_same, any_found, any_at}
use Rattle.happens_before.specs.Types.{Event}
use Rattle.happens_before.specs.Causality.{step, Chain, link, onward, reaches, before, through}

module _ (d : ℕ → ℕ → Bool) where
  -- more steps than j are not needed to reach j
  enough : (i f g j : ℕ) → j ≤ f → j ≤ g → reaches d f i j ≡ reaches d g i j
  unfolding reaches
  enough i zero zero j l m = refl
  enough i zero (suc g) zero l m = refl
  enough i zero (suc g) (suc j) l m = absurd (omega arith)
  enough i (suc f) zero zero l m = refl
  enough i (suc f) zero (suc j) l m = absurd (omega arith)
  enough i (suc f) (suc g) j l m =
      any_same _ _ j (λ k u. ap (λ (b : Bool). d k j && (eqb i k || b)) (enough i f g k (omega arith) (omega arith)))

  reaches_chain : (f i j : ℕ) → reaches d f i j ≡ true → Chain d i j
  unfolding reaches
  reaches_chain zero i j h = absurd (false≢true h)
  reaches_chain (suc f) i j h =
      let r = any_found _ j h in
      let s = and_left (d r.0 j) _ r.2 in
      or_cases (eqb i r.0) (reaches d f i r.0) (and_right (d r.0 j) _ r.2)
      (λ e. link (rw (eqb-true i r.0 e) s))
      (λ e. onward (reaches_chain f i r.0 e) s)

module _ (delay : ℕ) (es : List Event) where
  -- what happens before j: its direct predecessors, and what happens before them
  pub row_union : (i j : ℕ) → before delay es i j ≡ any_below (through delay es i j) j
  unfolding before reaches
  row_union i zero = refl
  row_union i (suc j) =
      any_same _ _ (suc j) (λ k l. ap (λ (b : Bool). step delay es k (suc j) && (eqb i k || b)) (enough (step delay es) i j k k (omega arith) (le_refl k)))

  step_later : (i j : ℕ) → step delay es i j ≡ true → (i < j) × (j < length es)
  unfolding step
  step_later i j h =
      let below = ltb j (length es) in
      let p = precedes delay (event_at es i) (event_at es j) in
      (ltb-true i j (and_left (ltb i j) (below && p) h), ltb-true j (length es) (and_left below p (and_right (ltb i j) (below && p) h)))

  -- a chain goes to a later line of the trace
  pub chain_later : {i j : ℕ} → Chain (step delay es) i j → (i < j) × (j < length es)
  chain_later (link {i = i} {j = j} s) = step_later i j s
  chain_later (onward {k = k} {j = j} c s) = let l = chain_later c in let m = step_later k j s in (omega arith, m.1)

  chain_before : {i j : ℕ} → Chain (step delay es) i j → before delay es i j ≡ true
  chain_before (link {i = i} {j = j} s) =
      row_union i j ∙ any_at _ j i (step_later i j s).0 (and_intro s (rw (eq-eqb i i refl) refl))
  chain_before (onward {i = i} {k = k} {j = j} c s) =
      row_union i j ∙ any_at _ j k (step_later k j s).0 (and_intro s (rw (chain_before c) (or-true (eqb i k))))

  -- `before` decides whether there is a chain of steps to later lines
  pub before_iff : (i j : ℕ) → (before delay es i j ≡ true) ↔ Chain (step delay es) i j
  unfolding before
  before_iff i j = (reaches_chain (step delay es) j i j, chain_before)

  -- nothing happens before an event that the trace does not have
  pub before_end : (i j : ℕ) → length es ≤ j → before delay es i j ≡ false
  before_end i j l = split (before delay es i j) (λ e. absurd (omega (arith, (chain_later ((before_iff i j).0 e)).1))) (λ e. e)
