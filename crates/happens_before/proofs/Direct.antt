-- Direct precedence in words (`direct_iff`). Where no range is empty and the time rule puts no later line before an earlier one, as in
-- an accepted trace, it goes to later lines only, and the test drops nothing (`step_is_direct`, `before_direct`). A longer delay
-- orders no more (`chain_less`). Where every clock is 0 only tokens and barriers order (`still_direct`). Assumes nothing.
use Prim.Native.Nat.{ℕ, ◌≤◌, ◌<◌}
use native.Mathlib.Decide.{dec_lt, ℕ_discrete}
use native.Mathlib.Omega.{arith}
use mathlib.Core.Path.{◌≡◌, refl, sym, ◌∙◌}
use mathlib.Core.Logic.{◌↔◌, inl, inr, ⊎_elim}
use mathlib.Core.Bool.{Bool, true, false, ◌&&◌, ◌||◌, or-true, or-false, and-false}
use mathlib.Core.List.{List}
use lib.Dec.{ltb}
use lib.ListN.{length}
use borrow.Author.Tests.{lt-ltb, le-ltb, ltb-true}
use Rattle.basics.proofs.Booleans.{split, and_left, and_right, and_intro, or_cases}
use Rattle.trace_events.specs.Events.{event_at}
use Rattle.trace_events.specs.Precedence.{line_step}
use Rattle.trace_events.specs.Clocks.{time_step, InLineOrder}
use Rattle.trace_events.specs.Inner.{precedes}
use Rattle.trace_events.proofs.Precedes.{line_step_iff}
use Rattle.trace_events.proofs.Clocks.{time_step_iff, time_step_less, from_none, never_itself}
use Rattle.happens_before.specs.Types.{Event}
use Rattle.happens_before.specs.Causality.{direct, DirectlyPrecedes, step, Chain, link, onward, before}
use Rattle.happens_before.proofs.Chains.{before_iff, chain_later}

module _ (delay : ℕ) (es : List Event) (i j : ℕ) where
  abbrev line : Bool
  line = ltb i j && line_step (event_at es i) (event_at es j)

  abbrev timed : Bool
  timed = time_step delay (event_at es i) (event_at es j)

  pub direct_iff : (direct delay es i j ≡ true) ↔ DirectlyPrecedes delay es i j
  unfolding direct
  direct_iff = (
    λ e.
        let inside = ltb j (length es) in
        let f = and_right (ltb i (length es)) (inside && (line || timed)) e in
        record {
          first = ltb-true i (length es) (and_left (ltb i (length es)) (inside && (line || timed)) e);
          second = ltb-true j (length es) (and_left inside (line || timed) f);
          by = or_cases line timed (and_right inside (line || timed) f)
              (λ g. inl (ltb-true i j (and_left (ltb i j) _ g), (line_step_iff (event_at es i) (event_at es j)).0 (and_right (ltb i j) _ g)))
              (λ g. inr ((time_step_iff delay (event_at es i) (event_at es j)).0 g));
        },
    λ d. and_intro (lt-ltb i (length es) d.first) (and_intro (lt-ltb j (length es) d.second) (⊎_elim
        (λ p. rw (and_intro (lt-ltb i j p.0) ((line_step_iff (event_at es i) (event_at es j)).1 p.1)) refl)
        (λ t. rw ((time_step_iff delay (event_at es i) (event_at es j)).1 t) (or-true line))
        d.by)),
  )

-- ---- to later lines only
module _ (delay : ℕ) (es : List Event) (h : InLineOrder delay es) where
  to_later : (i j : ℕ) → i < j → step delay es i j ≡ direct delay es i j
  unfolding step direct precedes
  to_later i j l = split (ltb j (length es))
      (λ e. rw (e, lt-ltb i j l, lt-ltb i (length es) (omega (arith, l, ltb-true j (length es) e))) refl)
      (λ e. rw (e, and-false, and-false) refl)

  not_back : (i j : ℕ) → j ≤ i → i < length es → time_step delay (event_at es i) (event_at es j) ≡ false
  not_back i j l m = elim (ℕ_discrete j i) [
    | yes e ↦ rw e (never_itself delay (event_at es i) (h.ranges i m))
    | no ne ↦ h.forward j i (omega arith) m
  ]

  not_later : (i j : ℕ) → j ≤ i → step delay es i j ≡ direct delay es i j
  unfolding step direct
  not_later i j l = split (ltb i (length es))
      (λ e. rw (le-ltb i j l, e, not_back i j l (ltb-true i (length es) e), and-false) refl)
      (λ e. rw (le-ltb i j l, e) refl)

  -- a direct step goes to a later line: the test of chains looks at all of them
  pub step_is_direct : (i j : ℕ) → step delay es i j ≡ direct delay es i j
  step_is_direct i j = elim (dec_lt i j) [ yes l ↦ to_later i j l | no ge ↦ not_later i j (omega arith) ]

  as_direct : {i j : ℕ} → Chain (step delay es) i j → Chain (direct delay es) i j
  as_direct (link {i = i} {j = j} s) = link (sym (step_is_direct i j) ∙ s)
  as_direct (onward {k = k} {j = j} c s) = onward (as_direct c) (sym (step_is_direct k j) ∙ s)

  as_steps : {i j : ℕ} → Chain (direct delay es) i j → Chain (step delay es) i j
  as_steps (link {i = i} {j = j} s) = link (step_is_direct i j ∙ s)
  as_steps (onward {k = k} {j = j} c s) = onward (as_steps c) (step_is_direct k j ∙ s)

  pub chain_direct : (i j : ℕ) → Chain (step delay es) i j ↔ Chain (direct delay es) i j
  chain_direct i j = (as_direct, as_steps)

  -- THE test of happens-before: true exactly if a chain of direct steps leads from i to j
  pub before_direct : (i j : ℕ) → (before delay es i j ≡ true) ↔ Chain (direct delay es) i j
  before_direct i j = (λ e. as_direct ((before_iff delay es i j).0 e), λ c. (before_iff delay es i j).1 (as_steps c))

  -- happens-before goes to later lines of the trace
  pub direct_later : {i j : ℕ} → Chain (direct delay es) i j → (i < j) × (j < length es)
  direct_later c = chain_later delay es (as_steps c)

-- ---- a longer delay
module _ (d e : ℕ) (l : d ≤ e) (es : List Event) where
  direct_less : (i j : ℕ) → direct e es i j ≡ true → direct d es i j ≡ true
  direct_less i j h =
      let r = (direct_iff e es i j).0 h in
      (direct_iff d es i j).1 (record {
        first = r.first;
        second = r.second;
        by = ⊎_elim inl (λ t. inr ((time_step_iff d _ _).0 (time_step_less d e _ _ l ((time_step_iff e _ _).1 t)))) r.by;
      })

  -- what happens before under the longer delay does so under the shorter
  pub chain_less : {i j : ℕ} → Chain (direct e es) i j → Chain (direct d es) i j
  chain_less (link {i = i} {j = j} s) = link (direct_less i j s)
  chain_less (onward {k = k} {j = j} c s) = onward (chain_less c) (direct_less k j s)

-- ---- clocks that say nothing
-- a token or a barrier step to a later line, and no other
abbrev pub unclocked : List Event → ℕ → ℕ → Bool
unclocked es i j = ltb i (length es) && (ltb j (length es) && (ltb i j && line_step (event_at es i) (event_at es j)))

module _ (delay : ℕ) (es : List Event) (still : (i : ℕ) → i < length es → ((event_at es i).head.from ≡ 0) × ((event_at es i).head.to ≡ 0)) where
  pub still_direct : (i j : ℕ) → direct delay es i j ≡ unclocked es i j
  unfolding direct
  still_direct i j = split (ltb j (length es))
      (λ e. rw (from_none delay (event_at es i) (event_at es j) (still j (ltb-true j (length es) e)).0, or-false) refl)
      (λ e. rw e refl)

  still_forth : {i j : ℕ} → Chain (direct delay es) i j → Chain (unclocked es) i j
  still_forth (link {i = i} {j = j} s) = link (sym (still_direct i j) ∙ s)
  still_forth (onward {k = k} {j = j} c s) = onward (still_forth c) (sym (still_direct k j) ∙ s)

  still_back : {i j : ℕ} → Chain (unclocked es) i j → Chain (direct delay es) i j
  still_back (link {i = i} {j = j} s) = link (still_direct i j ∙ s)
  still_back (onward {k = k} {j = j} c s) = onward (still_back c) (still_direct k j ∙ s)

  -- with from = to = 0 on every line and any delay, happens-before is by tokens and barriers alone
  pub still_chain : (i j : ℕ) → Chain (direct delay es) i j ↔ Chain (unclocked es) i j
  still_chain i j = (still_forth, still_back)

  -- and the time rule puts no line before another
  pub still_in_line_order : InLineOrder delay es
  still_in_line_order = record {
    ranges = λ i l. omega (arith, (still i l).0, (still i l).1);
    forward = λ i j l m. from_none delay (event_at es j) (event_at es i) (still i (omega (arith, l, m))).0;
  }
