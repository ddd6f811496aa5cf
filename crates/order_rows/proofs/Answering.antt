-- Which events have an answer line: exactly `pkt`, `pout` and `addc` (`answer_line_iff`). Assumes nothing.
use mathlib.Core.Path.{◌≡◌, refl, sym, ap, ◌∙◌}
use mathlib.Core.Bool.{Bool, true, false, ◌||◌, not, cond, false≢true}
use mathlib.Core.List.{List, [], ◌∷◌}
use Prim.Native.Nat.{ℕ, ◌<◌}
use native.Mathlib.Decide.{dec_lt}
use native.Mathlib.Omega.{arith}
use lib.Dec.{eqb}
use lib.ListN.{length, get_or-eq_default}
use borrow.Author.Tests.{eqb-true}
use Rattle.basics.proofs.Booleans.{split}
use Rattle.flow_table.specs.FlowTable.{Table, highest, at_priority, first_at, fitting, best, effect_of}
use Rattle.flow_table.specs.Switches.{switch_of}
use Rattle.order_meaning.specs.Orders.{IsOrderOf}
use Rattle.basics.specs.Searches.{has}
use Rattle.order_meaning.proofs.OrderLaws.{in_range_lem}
use Rattle.rows.specs.Rows.{table_of}
use Rattle.rows_step.specs.Stepping.{step_rows, effect_answer, answer_rows}
use Rattle.trace_events.specs.Events.{no_event}
use Rattle.order_rows.specs.Types.{Packet, Origin, TableOperation, Operation, Answer, Event, Row, Effect}
use Rattle.order_rows.specs.Runs.{operation_at}
use Rattle.order_rows.specs.Inner.{kept_in, answers_in}
use Rattle.replay_answers.specs.Answers.{answers_as, has_answer, is_silent}
use Rattle.order_rows.proofs.EndTables.{kept_absent}

-- a packet has an answer, a miss too
packet_answers : (t : Table) → is_silent (best t) ≡ false
unfolding best
packet_answers t = at (highest t) (at_priority (highest t) t)
  where
    at : (n : ℕ) (s : Table) → is_silent (first_at n s) ≡ false
    at n [] = refl
    at n (e ∷ s) = refl

effect_silent : (w : ℕ) (v : Effect) (rs : List Row) → is_silent (effect_answer w v rs) ≡ not (answers_as v)
unfolding effect_answer
effect_silent w (Effect.Pkt p) rs = packet_answers (fitting p (table_of w rs))
effect_silent w (Effect.Add k a) rs = refl
effect_silent w (Effect.Addc k a) rs = refl
effect_silent w (Effect.Modn k a) rs = refl
effect_silent w (Effect.Dels k) rs = refl
effect_silent w (Effect.Deln m) rs = refl
effect_silent w Effect.Idle rs = refl

answer_silent : (o : Operation) (rs : List Row) → is_silent (answer_rows o rs) ≡ not (has_answer o)
unfolding answer_rows
answer_silent o rs = effect_silent (switch_of o) (effect_of o) rs

-- in an order of the events no other number stands
pub absent : {n : ℕ} {o : List ℕ} → IsOrderOf n o → (i : ℕ) → (i < n → ⊥) → has i o ≡ false
absent {o = o} p i l = split (has i o) (λ e. absurd (l (in_range_lem p i e))) (λ e. e)

module _ (es : List Event) where
  kept_silent : (i : ℕ) (o : List ℕ) (rs : List Row) (a : Answer) → has i o ≡ true → is_silent (kept_in es i o rs a) ≡ not (has_answer (operation_at es i))
  unfolding kept_in
  kept_silent i [] rs a h = absurd (false≢true h)
  kept_silent i (j ∷ o) rs a h =
      split (has i o)
      (λ e. kept_silent i o (step_rows (operation_at es j) rs) (cond (eqb i j) (answer_rows (operation_at es j) rs) a) e)
      (λ e. last (eqb i j) refl h e)
    where
      last : (b : Bool) → eqb i j ≡ b → (b || has i o) ≡ true → has i o ≡ false
          → is_silent (kept_in es i o (step_rows (operation_at es j) rs) (cond b (answer_rows (operation_at es j) rs) a)) ≡ not (has_answer (operation_at es i))
      last true u k e =
          ap is_silent (kept_absent es i o (step_rows (operation_at es j) rs) (answer_rows (operation_at es j) rs) e)
          ∙ answer_silent (operation_at es j) rs ∙ ap (λ n. not (has_answer (operation_at es n))) (sym (eqb-true i j u))
      last false u k e = absurd (false≢true (sym e ∙ k))

  -- in an order of the events, each event that is a `pkt`, `pout` or `addc` has an answer line, and no other has
  pub answer_line_iff : (o : List ℕ) → IsOrderOf (length es) o → (rs : List Row) (i : ℕ) → is_silent (answers_in es o rs i) ≡ not (has_answer (operation_at es i))
  unfolding answers_in
  answer_line_iff o p rs i =
      elim (dec_lt i (length es)) [
        | yes l ↦ kept_silent i o rs Answer.Silent (p.full i l)
        | no l ↦ ap is_silent (kept_absent es i o rs Answer.Silent (absent p i l)) ∙ sym (ap (λ e. not (has_answer e.operation)) (get_or-eq_default es no_event {n = i} (omega arith)))
      ]

  -- so a packet has one, received or sent out
  pub packet_line : (o : List ℕ) → IsOrderOf (length es) o → (rs : List Row) (i w : ℕ) (g : Origin) (p : Packet)
      → operation_at es i ≡ Operation.Table w (TableOperation.Packet g p) → is_silent (answers_in es o rs i) ≡ false
  packet_line o h rs i w g p e = answer_line_iff o h rs i ∙ ap (λ a. not (has_answer a)) e
