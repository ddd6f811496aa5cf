-- The actions of the slots that fit, written one after the other. Assumes nothing.
use mathlib.Core.Path.{◌≡◌, refl, ap, ◌∙◌}
use mathlib.Core.Bool.{false, cond}
use mathlib.Core.List.{List}
use Rattle.std.specs.Prelude.{Some, None}
use Prim.Native.Nat.{ℕ, ◌+◌, ◌≤◌, ◌<◌}
use native.Mathlib.Decide.{dec_lt}
use native.Mathlib.Omega.{arith}
use lib.Dec.{eqb}
use lib.ListN.{length, set, length-set}
use borrow.Author.Tests.{eqb-true, eqb-false, ne_eqb}
use Rattle.basics.proofs.Booleans.{split}
use Rattle.bit_sets.specs.Inner.{member, NextFrom}
use Rattle.slots.specs.Inner.{action_at, assigned}
use Rattle.slots_run.specs.Types.{Action, Change}
use Rattle.slots_run.specs.Inner.{Written}
use Rattle.slots_run.proofs.Writing.{get_d_set}

-- the slots below i are written, those from i on are not
pub record Assigning (fitting : List ℕ) (v : Action) (old actions : List Action) (i : ℕ) : Type 0 where
  pub size : length actions ≡ length old
  pub done : (k : ℕ) → k < i → action_at actions k ≡ cond (member fitting k) v (action_at old k)
  pub rest : (k : ℕ) → i ≤ k → action_at actions k ≡ action_at old k

-- a slot that doesn't fit
left : (fitting : List ℕ) (v : Action) (old : List Action) (k : ℕ) → member fitting k ≡ false → action_at old k ≡ cond (member fitting k) v (action_at old k)
left fitting v old k e = rw e refl

module _ (fitting : List ℕ) (v : Action) (old : List Action) where
  pub assign_start : Assigning fitting v old old 0
  assign_start = record { size = refl; done = λ k l. absurd (omega arith); rest = λ k l. refl }

  module _ (actions : List Action) (i : ℕ) (a : Assigning fitting v old actions i) where
    pub assign_turn : (j : ℕ) → NextFrom fitting i (Some j) → j < length actions → Assigning fitting v old (set actions j v) (j + 1)
    assign_turn j n h = record {
      size = rw length-set a.size;
      done = λ k l. get_d_set actions j k v Action.Drop h ∙ split (eqb k j)
          (λ u. rw (u, ap (member fitting) (eqb-true k j u) ∙ n.here) refl)
          (λ u. rw u (elim (dec_lt k i) [
            | yes q ↦ a.done k q
            | no q ↦ let below : k < j = omega (arith, eqb-false k j u) in a.rest k (omega arith) ∙ left fitting v old k (n.skipped k (omega arith) below)
          ]));
      rest = λ k l. let after = n.after in get_d_set actions j k v Action.Drop h ∙ rw (ne_eqb k j (λ e. omega arith)) (a.rest k (omega arith));
    }

    pub assign_end : NextFrom fitting i None → Written (λ k. assigned (Change.Assign v) (member fitting k)) old actions
    assign_end n = record {
      size = a.size;
      each = λ k. elim (dec_lt k i) [ yes q ↦ a.done k q | no q ↦ a.rest k (omega arith) ∙ left fitting v old k (n k (omega arith)) ];
    }
