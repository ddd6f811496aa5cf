-- Two sets compared, and two arrays of actions at the slots of a set. Assumes nothing.
use mathlib.Core.Path.{◌≡◌, refl, sym, ap, ◌∙◌}
use mathlib.Core.Logic.{◌↔◌}
use mathlib.Core.Bool.{Bool, true, false, not, ◌&&◌, false≢true}
use mathlib.Core.List.{List}
use Prim.Native.Nat.{ℕ, ◌+◌, ◌<◌}
use native.Mathlib.Decide.{ℕ_discrete, dec_lt}
use native.Mathlib.Omega.{arith}
use Rattle.std.specs.Prelude.{Option, Some, None, is_none}
use Rattle.basics.proofs.Booleans.{and_intro, and_left, and_right, both_ways}
use Rattle.bit_sets.specs.Inner.{member, NextFrom}
use Rattle.slots.specs.Inner.{action_at}
use Rattle.slots_run.specs.Types.{Action}

-- what `!=` answers, in terms of the derived equality
pub told : {r e : Bool} → r ≡ not e → {b : Bool} → r ≡ b → e ≡ not b
told {e = true} h k = ap not (sym h ∙ k)
told {e = false} h k = ap not (sym h ∙ k)

-- ---- sets
-- what is in the one and not in the other
implied : (p q : Bool) → (p && not q) ≡ false → p ≡ true → q ≡ true
implied true true e h = refl
implied true false e h = absurd (false≢true (sym e))
implied false q e h = absurd (false≢true h)

apart : (p q : Bool) → p ≡ q → (p && not q) ≡ true → ⊥
apart true true e h = false≢true h
apart true false e h = false≢true (sym e)
apart false q e h = false≢true h

-- nothing of a is outside b
module _ (a b outside : List ℕ) (is : (k : ℕ) → member outside k ≡ (member a k && not (member b k))) (r : Option ℕ) (n : NextFrom outside 0 r) where
  none_outside : is_none r ≡ true → (k : ℕ) → member a k ≡ true → member b k ≡ true
  none_outside = go r n
    where
      go : (r : Option ℕ) → NextFrom outside 0 r → is_none r ≡ true → (k : ℕ) → member a k ≡ true → member b k ≡ true
      go None n e k h = implied (member a k) (member b k) (sym (is k) ∙ n k (omega arith)) h
      go (Some i) n e k h = absurd (false≢true e)

  no_lowest : ((k : ℕ) → member a k ≡ member b k) → is_none r ≡ true
  no_lowest = go r n
    where
      go : (r : Option ℕ) → NextFrom outside 0 r → ((k : ℕ) → member a k ≡ member b k) → is_none r ≡ true
      go None n f = refl
      go (Some i) n f = absurd (apart (member a i) (member b i) (f i) (sym (is i) ∙ n.here))

pub same_sets : (a b more : List ℕ) → ((k : ℕ) → member more k ≡ (member a k && not (member b k))) → (r : Option ℕ) → NextFrom more 0 r
    → (fewer : List ℕ) → ((k : ℕ) → member fewer k ≡ (member b k && not (member a k))) → (t : Option ℕ) → NextFrom fewer 0 t
    → ((is_none r && is_none t) ≡ true) ↔ ((k : ℕ) → member a k ≡ member b k)
same_sets a b more f r n fewer g t m = (
  λ e k. both_ways (member a k) (member b k)
      (none_outside a b more f r n (and_left (is_none r) (is_none t) e) k)
      (none_outside b a fewer g t m (and_right (is_none r) (is_none t) e) k),
  λ h. and_intro (no_lowest a b more f r n h) (no_lowest b a fewer g t m (λ k. sym (h k))),
)

-- ---- actions
-- the slots of the set below i have the same actions
abbrev pub Comparing : List ℕ → List Action → List Action → ℕ → Type 0
Comparing set a b i = (k : ℕ) → k < i → member set k ≡ true → action_at a k ≡ action_at b k

module _ (set : List ℕ) (a b : List Action) (i : ℕ) (c : Comparing set a b i) where
  pub compare_turn : (j : ℕ) → NextFrom set i (Some j) → action_at a j ≡ action_at b j → Comparing set a b (j + 1)
  compare_turn j n e k l h = elim (dec_lt k i) [
    | yes q ↦ c k q h
    | no q ↦ elim (ℕ_discrete k j) [
      | yes u ↦ rw u e
      | no ne ↦ let below : k < j = omega (arith, ne) in absurd (false≢true (sym (n.skipped k (omega arith) below) ∙ h))
    ]
  ]

  pub compare_end : NextFrom set i None → (k : ℕ) → member set k ≡ true → action_at a k ≡ action_at b k
  compare_end n k h = elim (dec_lt k i) [ yes q ↦ c k q h | no q ↦ absurd (false≢true (sym (n k (omega arith)) ∙ h)) ]
