-- One event on a set of slots, by its plan: what it leaves, what it answers, and that its slots stay those that there are.
-- Assumes nothing.
use mathlib.Core.Path.{◌≡◌, sym, ◌∙◌, ap}
use mathlib.Core.Bool.{Bool, true, false, ◌&&◌, ◌||◌, not, cond, false≢true}
use Rattle.std.specs.Prelude.{Option, Some, None}
use mathlib.Core.List.{List}
use Prim.Native.Nat.{ℕ, ◌<◌}
use lib.Dec.{eqb}
use lib.ListN.{length}
use borrow.Author.Tests.{eqb-true}
use Rattle.basics.proofs.Booleans.{and-true, and_left, or_cases}
use Rattle.bit_sets.specs.Inner.{member}
use Rattle.rows.specs.Rows.{same_slot, SortedRows, any_row}
use Rattle.rows_step.specs.Stepping.{step_rows, answer_rows}
use Rattle.rows_step.specs.Inner.{changed, is_dropped, seen_rows, with_put, chosen}
use Rattle.rows_step.proofs.Works.{silent_stays, done_unless}
use Rattle.slots.specs.Types.{Action, Answer, Operation, Row, Change, Put, Reply, Plan}
use Rattle.slots.specs.Inner.{held_rows, action_at, state_rows, Marks, Inside, assigned, put_at, put_action, PutPlanned, begins, StepFor}
use Rattle.slots.proofs.Held.{OfSlot, of_slot_chosen, mark_inside, held_drop, held_assign, held_any, held_none_marked, held_put}

-- ---- the set and the actions after the change of the slots that pass
abbrev pub SetChanged : List ℕ → Change → List ℕ → List ℕ → Type 0
SetChanged mask c set set₁ = (i : ℕ) → member set₁ i ≡ (member set i && not (is_dropped c (member mask i)))

abbrev pub ActionsChanged : List ℕ → Change → List ℕ → List Action → List Action → Type 0
ActionsChanged mask c set actions actions₁ = (i : ℕ) → action_at actions₁ i ≡ assigned c (member set i && member mask i) (action_at actions i)

-- and with the slot put in, where one is
abbrev pub SetPut : Option Put → List ℕ → List ℕ → Type 0
SetPut q set₁ set₂ = (i : ℕ) → member set₂ i ≡ (put_at q i || member set₁ i)

abbrev pub ActionsPut : Option Put → List Action → List Action → Type 0
ActionsPut q actions₁ actions₂ = (i : ℕ) → action_at actions₂ i ≡ put_action q i (action_at actions₁ i)

-- ---- their rows
-- by what is held at each slot
state_as : (U : List Row) (set : List ℕ) (actions : List Action) (h : ℕ → Bool) (a : ℕ → Action) → ((i : ℕ) → member set i ≡ h i) → ((i : ℕ) → action_at actions i ≡ a i)
    → state_rows U set actions ≡ held_rows h a 0 U
state_as U set actions h a e f = λ j. held_rows (λ i. e i j) (λ i. f i j) 0 U

changed_held : (p : Row → Bool) → OfSlot p → (U : List Row) (mask : List ℕ) → Marks p U mask → (set : List ℕ) (actions : List Action) (set₁ : List ℕ) (actions₁ : List Action) (c : Change)
    → SetChanged mask c set set₁ → ActionsChanged mask c set actions actions₁ → state_rows U set₁ actions₁ ≡ changed c p (state_rows U set actions)
unfolding changed
changed_held p of U mask marks set actions set₁ actions₁ Change.Keep s c =
    state_as U set₁ actions₁ (member set) (action_at actions) (λ i. s i ∙ and-true (member set i)) c
changed_held p of U mask marks set actions set₁ actions₁ Change.Drop s c =
    state_as U set₁ actions₁ (λ i. member set i && not (member mask i)) (action_at actions) s c ∙ sym (held_drop p of U mask marks (member set) (action_at actions))
changed_held p of U mask marks set actions set₁ actions₁ (Change.Assign v) s c =
    state_as U set₁ actions₁ (member set) (λ i. cond (member set i && member mask i) v (action_at actions i)) (λ i. s i ∙ and-true (member set i)) c
    ∙ sym (held_assign p of U mask marks (member set) (action_at actions) v)

put_held : (U : List Row) → SortedRows U → (set : List ℕ) (actions : List Action) (set₁ : List ℕ) (actions₁ : List Action) (met : Bool) (r : Option Row) (q : Option Put) → PutPlanned U r q
    → SetPut (cond met None q) set set₁ → ActionsPut (cond met None q) actions actions₁ → state_rows U set₁ actions₁ ≡ with_put (cond met None r) (state_rows U set actions)
put_held U sorted set actions set₁ actions₁ true r q e s c = state_as U set₁ actions₁ (member set) (action_at actions) s c
put_held U sorted set actions set₁ actions₁ false None None e s c = state_as U set₁ actions₁ (member set) (action_at actions) s c
put_held U sorted set actions set₁ actions₁ false None (Some p) e s c = absurd e
put_held U sorted set actions set₁ actions₁ false (Some r) None e s c = absurd e
put_held U sorted set actions set₁ actions₁ false (Some r) (Some p) e s c =
    state_as U set₁ actions₁ (λ i. eqb i p.slot || member set i) (λ i. cond (eqb i p.slot) r.entry.action (action_at actions i)) s (λ i. c i ∙ ap (λ v. cond (eqb i p.slot) v (action_at actions i)) e.1)
    ∙ sym (held_put (member set) (action_at actions) U sorted r p.slot e.0)

-- a slot that is put in is one of the slots
put_inside : (U : List Row) (met : Bool) (r : Option Row) (q : Option Put) → PutPlanned U r q → (i : ℕ) → put_at (cond met None q) i ≡ true → i < length U
put_inside U true r q e i h = absurd (false≢true h)
put_inside U false None None e i h = absurd (false≢true h)
put_inside U false None (Some p) e i h = absurd e
put_inside U false (Some r) None e i h = absurd e
put_inside U false (Some r) (Some p) e i h = rw (eqb-true i p.slot h) (mark_inside (same_slot r) U p.slot e.0)

module _ {U : List Row} {o : Operation} {mask : List ℕ} {plan : Plan} (f : StepFor U o mask plan) where
  -- ---- what the event leaves
  -- one slot is held and asked about, or none
  pub met_step : (set : List ℕ) (actions : List Action) (r : ℕ) → (member set r && member mask r) ≡ true → any_row (chosen f.work) (state_rows U set actions) ≡ true
  met_step set actions r e = held_any (chosen f.work) (of_slot_chosen f.work) U mask f.marks (member set) (action_at actions) r e

  pub unmet_step : (set : List ℕ) (actions : List Action) → ((k : ℕ) → (member set k && member mask k) ≡ false) → any_row (chosen f.work) (state_rows U set actions) ≡ false
  unmet_step set actions n = held_none_marked (chosen f.work) (of_slot_chosen f.work) U mask f.marks (member set) (action_at actions) n

  pub after_step : SortedRows U → (set : List ℕ) (actions : List Action) (met : Bool) → met ≡ any_row (chosen f.work) (state_rows U set actions)
      → (set₁ : List ℕ) (actions₁ : List Action) (set₂ : List ℕ) (actions₂ : List Action) → SetChanged mask plan.change set set₁ → ActionsChanged mask plan.change set actions actions₁
      → SetPut (cond met None plan.put) set₁ set₂ → ActionsPut (cond met None plan.put) actions₁ actions₂ → state_rows U set₂ actions₂ ≡ step_rows o (state_rows U set actions)
  unfolding step_rows
  after_step sorted set actions met e set₁ actions₁ set₂ actions₂ s₁ c₁ s₂ c₂ =
      put_held U sorted set₁ actions₁ set₂ actions₂ met f.work.put plan.put f.put s₂ c₂
      ∙ ap (with_put (cond met None f.work.put)) (changed_held (chosen f.work) (of_slot_chosen f.work) U mask f.marks set actions set₁ actions₁ plan.change s₁ c₁)
      ∙ rw (e, f.change) (sym (f.is_for.rows (state_rows U set actions)))

  pub inside_step : (set : List ℕ) (met : Bool) (set₁ set₂ : List ℕ) → SetChanged mask plan.change set set₁ → SetPut (cond met None plan.put) set₁ set₂ → Inside U set → Inside U set₂
  inside_step set met set₁ set₂ s₁ s₂ inside i m =
      or_cases (put_at (cond met None plan.put) i) (member set₁ i) (sym (s₂ i) ∙ m) (put_inside U met f.work.put plan.put f.put i) (λ u. inside i (and_left (member set i) _ (sym (s₁ i) ∙ u)))

  -- ---- what it answers
  module _ (rs : List Row) where
    answer_from : (r : Reply) → plan.reply ≡ r → answer_rows o rs ≡ seen_rows (chosen f.work) (begins r) rs
    unfolding answer_rows
    answer_from r e = f.is_for.answered rs ∙ ap (λ a. seen_rows (chosen f.work) a rs) (f.answer ∙ ap begins e)

    pub answer_silent : plan.reply ≡ Reply.Silent → answer_rows o rs ≡ Answer.Silent
    answer_silent e = answer_from Reply.Silent e ∙ sym (silent_stays (chosen f.work) rs)

    pub answer_done : plan.reply ≡ Reply.Done → answer_rows o rs ≡ Answer.Done (not (any_row (chosen f.work) rs))
    answer_done e = answer_from Reply.Done e ∙ done_unless (chosen f.work) rs

    pub answer_found : plan.reply ≡ Reply.Best → answer_rows o rs ≡ seen_rows (chosen f.work) Answer.Miss rs
    answer_found e = answer_from Reply.Best e
