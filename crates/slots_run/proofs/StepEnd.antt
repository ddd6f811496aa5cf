-- An event on slots by what its parts do. Assumes nothing.
use mathlib.Core.Path.{◌≡◌, refl, sym, ap, ◌∙◌}
use mathlib.Core.Bool.{not, cond, ◌&&◌}
use mathlib.Core.List.{List}
use Rattle.std.specs.Prelude.{Option, Some, None, is_some}
use Prim.Native.Nat.{ℕ}
use native.Mathlib.Omega.{arith}
use Rattle.bit_sets.specs.Inner.{member, NextFrom}
use Rattle.rows.specs.Rows.{any_row}
use Rattle.rows_step.specs.Inner.{chosen}
use Rattle.rows_step.specs.Stepping.{answer_rows}
use Rattle.slots.specs.Inner.{action_at, assigned, put_action, state_rows}
use Rattle.slots.proofs.StepLaws.{SetChanged, SetPut, met_step, unmet_step, after_step, inside_step, answer_silent, answer_found, answer_done}
use Rattle.slots_run.specs.Types.{Action, Answer, Operation, Row, Plan, Reply}
use Rattle.slots_run.specs.Inner.{Written, Asked, Answers, Moment, StepsTo}

module _ (set : List ℕ) (actions : List Action) (mask : List ℕ) (plan : Plan) (priorities fitting : List ℕ) (shared : (i : ℕ) → member fitting i ≡ (member set i && member mask i)) (first : Option ℕ)
    (next : NextFrom fitting 0 first) (slots : List Row) (o : Operation) (m : Moment slots o mask plan priorities set) where
  met : is_some first ≡ any_row (chosen m.step.work) (state_rows slots set actions)
  met = go first next
    where
      go : (r : Option ℕ) → NextFrom fitting 0 r → is_some r ≡ any_row (chosen m.step.work) (state_rows slots set actions)
      go None n = sym (unmet_step m.step set actions (λ k. sym (shared k) ∙ n k (omega arith)))
      go (Some r) n = sym (met_step m.step set actions r (sym (shared r) ∙ n.here))

  pub answered : (a : Answer) → Answers plan.reply (is_some first) fitting priorities actions a → a ≡ answer_rows o (state_rows slots set actions)
  answered a = by plan.reply refl
    where
      asked : Asked slots m.step.work priorities set mask fitting
      asked = record {
        few = m.few;
        ranks = m.ranks;
        marks = m.step.marks;
        shared = shared;
      }

      by : (r : Reply) → plan.reply ≡ r → Answers r (is_some first) fitting priorities actions a → a ≡ answer_rows o (state_rows slots set actions)
      by Reply.Silent e q = q ∙ sym (answer_silent m.step (state_rows slots set actions) e)
      by Reply.Best e q = q slots m.step.work set mask asked ∙ sym (answer_found m.step (state_rows slots set actions) e)
      by Reply.Done e q = q ∙ ap (λ b. Answer.Done (not b)) met ∙ sym (answer_done m.step (state_rows slots set actions) e)

  pub stepped : (left held : List ℕ) (actions₁ actions₂ : List Action) (a : Answer) → SetChanged mask plan.change set left → Written (λ i. assigned plan.change (member fitting i)) actions actions₁
      → SetPut (cond (is_some first) None plan.put) left held → Written (put_action (cond (is_some first) None plan.put)) actions₁ actions₂
      → Answers plan.reply (is_some first) fitting priorities actions a → StepsTo slots o set actions actions₂ (record { set = held; answer = a })
  stepped left held actions₁ actions₂ a l c₁ s c₂ q = record {
    inside = inside_step m.step set (is_some first) left held l s m.inside;
    rows = after_step m.step m.sorted set actions (is_some first) met left actions₁ held actions₂ l
        (λ i. c₁.each i ∙ ap (λ b. assigned plan.change b (action_at actions i)) (shared i)) s c₂.each;
    answer = answered a q;
  }
