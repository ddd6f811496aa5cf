-- The two texts that a replay writes tell what its order did: those of two accepted orders are the same exactly if the end tables and the
-- answers are (`texts_tell`). Assumes nothing.
use mathlib.Core.Path.{◌≡◌, refl, sym, ap, ◌∙◌}
use mathlib.Core.Bool.{Bool, true, false, not, cond, ◌||◌}
use mathlib.Core.Logic.{◌↔◌}
use Rattle.std.specs.Prelude.{None, Some, Ok}
use mathlib.Core.List.{List, [], ◌∷◌}
use Prim.Native.Nat.{ℕ}
use native.Mathlib.Decide.{dec_lt}
use lib.Dec.{eqb}
use lib.ListN.{length}
use Rattle.basics.specs.Searches.{has}
use Rattle.flow_table.specs.Switches.{Tables, step_of, answer_of}
use Rattle.order_meaning.specs.Orders.{IsOrderOf}
use Rattle.order_meaning.specs.Tables.{end_tables, answers}
use Rattle.rows.specs.Rows.{SortedRows, table_of, tables_of}
use Rattle.trace_text.specs.TraceText.{read_trace}
use Rattle.tables_text.specs.TableText.{read_tables}
use Rattle.tables_text.proofs.Accepted.{accepted_sorted}
use Rattle.tables_normal.specs.Normal.{tables_text}
use Rattle.tables_normal.proofs.Theorems.{normal_injective}
use Rattle.order_check.specs.Schedule.{check_order}
use Rattle.order_check.proofs.Accepted.{accepted_complete}
use Rattle.order_rows.specs.Runs.{operation_at, given_or}
use Rattle.order_rows.specs.Inner.{run_rows}
use Rattle.order_rows.proofs.EndTables.{run_tables, run_answers}
use Rattle.order_rows.proofs.Answering.{absent, answer_line_iff}
use Rattle.replay_answers.specs.Answers.{has_answer, is_silent}
use Rattle.replay_answers.proofs.AnswerLines.{text_tells}
use Rattle.replay_call.specs.Replay.{answer_lines, texts_of}
use Rattle.replay_call.proofs.RowsAreTables.{end_text}
use Rattle.replay_agreement.specs.Types.{Answer, Operation, Event, Row}
use Rattle.replay_agreement.proofs.SameTexts.{same_told}
use Rattle.replay_agreement.proofs.EndInRange.{end_rows_in_range, given_short}

-- an event has an answer exactly if it stands in the order
answered : (ev : ℕ → Operation) (o : List ℕ) (ts : Tables) (i : ℕ) → answers ev o ts i ≡ cond (has i o) (Some (given_or Answer.Silent (answers ev o ts i))) None
answered ev [] ts i = refl
answered ev (j ∷ o) ts i = go (eqb i j) (answered ev o (step_of (ev j) ts) i)
  where
    go : (b : Bool) → answers ev o (step_of (ev j) ts) i ≡ cond (has i o) (Some (given_or Answer.Silent (answers ev o (step_of (ev j) ts) i))) None
        → cond b (Some (answer_of (ev j) ts)) (answers ev o (step_of (ev j) ts) i)
        ≡ cond (b || has i o) (Some (given_or Answer.Silent (cond b (Some (answer_of (ev j) ts)) (answers ev o (step_of (ev j) ts) i)))) None
    go true ih = refl
    go false ih = ih

module _ (delay : ℕ) (s t : List ℕ) (es : List Event) (rs : List Row) (trace : read_trace delay s ≡ Ok es) (tables : read_tables t ≡ Ok rs) (o q : List ℕ) (order : check_order delay es o ≡ Ok tt) (other : check_order delay es q ≡ Ok tt) where
  sorted : SortedRows rs
  sorted = accepted_sorted t rs tables

  -- ---- the tables
  tables_tell : tables_text (end_tables (operation_at es) o (tables_of rs)) ≡ tables_text (end_tables (operation_at es) q (tables_of rs))
      → (w : ℕ) → end_tables (operation_at es) o (tables_of rs) w ≡ end_tables (operation_at es) q (tables_of rs) w
  tables_tell e w =
      let rows = normal_injective (run_rows es o rs) (run_rows es q rs)
      (end_rows_in_range delay s t es rs trace tables o) (end_rows_in_range delay s t es rs trace tables q)
      (end_text delay s t es rs trace tables o ∙ e ∙ sym (end_text delay s t es rs trace tables q)) in
      sym (run_tables es o rs sorted w) ∙ ap (table_of w) rows ∙ run_tables es q rs sorted w

  -- ---- the answers
  abbrev given : List ℕ → ℕ → Answer
  given p i = given_or Answer.Silent (answers (operation_at es) p (tables_of rs) i)

  first : IsOrderOf (length es) o
  first = accepted_complete delay es o order

  second : IsOrderOf (length es) q
  second = accepted_complete delay es q other

  -- which events have a line, in every order
  silent : {p : List ℕ} → IsOrderOf (length es) p → (i : ℕ) → is_silent (given p i) ≡ not (has_answer (operation_at es i))
  silent {p} h i = ap is_silent (sym (run_answers es (length es) p h rs sorted i)) ∙ answer_line_iff es p h rs i

  answers_tell : answer_lines es o (tables_of rs) ≡ answer_lines es q (tables_of rs)
      → (i : ℕ) → answers (operation_at es) o (tables_of rs) i ≡ answers (operation_at es) q (tables_of rs) i
  unfolding answer_lines
  answers_tell e i = answered (operation_at es) o (tables_of rs) i ∙ same ∙ sym (answered (operation_at es) q (tables_of rs) i)
    where
      same : cond (has i o) (Some (given o i)) None ≡ cond (has i q) (Some (given q i)) None
      same = elim (dec_lt i (length es)) [
        | yes l ↦ rw (first.full i l, second.full i l) (ap Some (text_tells (given o) (given q) (λ k. silent first k ∙ sym (silent second k))
            (given_short delay s t es rs trace tables o order) (given_short delay s t es rs trace tables q other) (length es) e i l))
        | no l ↦ rw (absent first i l, absent second i l) refl
      ]

  -- ---- both
  pub texts_tell : (texts_of es o (tables_of rs) ≡ texts_of es q (tables_of rs))
      ↔ (((w : ℕ) → end_tables (operation_at es) o (tables_of rs) w ≡ end_tables (operation_at es) q (tables_of rs) w)
      × ((i : ℕ) → answers (operation_at es) o (tables_of rs) i ≡ answers (operation_at es) q (tables_of rs) i))
  texts_tell = (
    λ e. (tables_tell (ap (λ x. x.tables) e), answers_tell (ap (λ x. x.answers) e)),
    λ (f, g). same_told es o q (tables_of rs) f g,
  )
