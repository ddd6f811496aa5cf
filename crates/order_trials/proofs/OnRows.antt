-- Two orders agree exactly if they leave the same rows, and keep the same answers (`rows_agree_iff`). Assumes nothing.
use mathlib.Core.Path.{◌≡◌, refl, sym, ap, ◌∙◌}
use mathlib.Core.Bool.{true, false≢true}
use mathlib.Core.Logic.{◌↔◌}
use mathlib.Core.List.{List, [], ◌∷◌}
use Rattle.std.specs.Prelude.{Some}
use Prim.Native.Nat.{ℕ, ◌≤◌, ◌<◌}
use native.Mathlib.Decide.{dec_lt}
use native.Mathlib.Omega.{arith}
use lib.Dec.{eqb}
use lib.ListN.{length}
use Rattle.basics.specs.Searches.{has}
use Rattle.basics.proofs.Booleans.{split}
use Rattle.flow_table.specs.Switches.{Tables, step_of}
use Rattle.order_meaning.specs.Orders.{IsOrderOf}
use Rattle.order_meaning.specs.Tables.{end_tables, answers}
use Rattle.rows.specs.Rows.{table_of, tables_of}
use Rattle.rows.proofs.TablesOf.{same_tables}
use Rattle.order_rows.specs.Runs.{operation_at, given_or}
use Rattle.order_rows.specs.Inner.{run_rows, answers_in}
use Rattle.order_rows.proofs.EndTables.{run_tables, run_answers, run_sorted, run_beyond}
use Rattle.order_trials.specs.Types.{Answer, Event, Operation, Row}
use Rattle.order_trials.specs.Same.{agreeing}
use Rattle.order_trials.specs.Inner.{Held}
use Rattle.order_trials.proofs.Agreeing.{agreeing_iff}

-- an event that stands in the order has an answer, silent or not
given : (ev : ℕ → Operation) (o : List ℕ) (start : Tables) (i : ℕ) → has i o ≡ true → answers ev o start i ≡ Some (given_or Answer.Silent (answers ev o start i))
given ev [] start i h = absurd (false≢true h)
given ev (j ∷ o) start i h = split (eqb i j) (λ u. rw u refl) (λ u. rw u (given ev o (step_of (ev j) start) i (rw u at h)))

module _ (es : List Event) (rs : List Row) (held : Held es rs) (o q : List ℕ) (order : IsOrderOf (length es) o) (other : IsOrderOf (length es) q) where
  -- what is left on switch w, as rows and as tables
  left : (p : List ℕ) (w : ℕ) → table_of w (run_rows es p rs) ≡ end_tables (operation_at es) p (tables_of rs) w
  left p w = run_tables es p rs held.sorted w

  -- the answer that is kept
  kept : (p : List ℕ) → IsOrderOf (length es) p → (i : ℕ) → answers_in es p rs i ≡ given_or Answer.Silent (answers (operation_at es) p (tables_of rs) i)
  kept p h = run_answers es (length es) p h rs held.sorted

  -- the answers are equal where those that are kept are
  answers_as_lem : (i : ℕ) → i < length es → answers_in es o rs i ≡ answers_in es q rs i → answers (operation_at es) o (tables_of rs) i ≡ answers (operation_at es) q (tables_of rs) i
  answers_as_lem i l e =
      given (operation_at es) o (tables_of rs) i (order.full i l) ∙ ap Some (sym (kept o order i) ∙ e ∙ kept q other i)
      ∙ sym (given (operation_at es) q (tables_of rs) i (other.full i l))

  pub rows_agree_iff : ((run_rows es o rs ≡ run_rows es q rs) × ((i : ℕ) → i < length es → answers_in es o rs i ≡ answers_in es q rs i)) ↔ (agreeing es (tables_of rs) o q ≡ true)
  rows_agree_iff = (
    λ (e, f). (agreeing_iff es (tables_of rs) o q).1 (λ w l. sym (left o w) ∙ ap (table_of w) e ∙ left q w, λ i l. answers_as_lem i l (f i l)),
    λ h.
        let a = (agreeing_iff es (tables_of rs) o q).0 h in
        let none : (p : List ℕ) (w : ℕ) → 16 ≤ w → table_of w (run_rows es p rs) ≡ [] = λ p w l. run_beyond es 16 held.switches p rs held.sorted held.beyond w l in
        let tables : (w : ℕ) → table_of w (run_rows es o rs) ≡ table_of w (run_rows es q rs) = λ w. elim (dec_lt w 16) [ yes l ↦ left o w ∙ a.0 w l ∙ sym (left q w) | no g ↦ none o w (omega arith) ∙ sym (none q w (omega arith)) ] in (
          same_tables (run_rows es o rs) (run_rows es q rs) (run_sorted es o rs held.sorted) (run_sorted es q rs held.sorted) tables,
          λ i l. kept o order i ∙ ap (given_or Answer.Silent) (a.1 i l) ∙ sym (kept q other i),
        ),
  )
