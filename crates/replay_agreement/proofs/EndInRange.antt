-- What a replay of an accepted trace leaves is in range: the rows of its end tables (`end_rows_in_range`), and in an accepted order
-- the answers (`given_short`). Assumes nothing.
use mathlib.Core.Path.{◌≡◌, subst}
use mathlib.Core.Bool.{Bool, true, false, cond}
use Rattle.std.specs.Prelude.{Option, None, Some, Ok}
use mathlib.Core.List.Memᴰ
use mathlib.Core.List.{List, [], ◌∷◌, Memᴰ}
use Prim.Native.Nat.{ℕ, suc, ◌≤◌}
use native.Mathlib.Decide.{dec_lt}
use native.Mathlib.Omega.{arith}
use lib.Dec.{eqb}
use lib.ListN.{length}
use Rattle.flow_table.specs.FlowTable.{TableInRange}
use Rattle.order_meaning.specs.Tables.{end_tables, answers}
use Rattle.rows.specs.Rows.{table_of, tables_of}
use Rattle.rows.proofs.TablesOf.{row_entry}
use Rattle.trace_text.specs.TraceText.{read_trace}
use Rattle.trace_text.proofs.Accepted.{trace_accepted_iff, events_in_range}
use Rattle.tables_text.specs.TableText.{read_tables}
use Rattle.tables_text.proofs.Accepted.{accepted_sorted, accepted_range, accepted_length}
use Rattle.tables_normal.specs.Inner.{RowsInRange}
use Rattle.order_check.specs.Schedule.{check_order}
use Rattle.order_check.proofs.Accepted.{accepted_complete}
use Rattle.order_rows.specs.Runs.{operation_at, given_or}
use Rattle.order_rows.specs.Inner.{run_rows}
use Rattle.order_rows.proofs.EndTables.{run_tables}
use Rattle.replay_answers.proofs.AnswerLines.{AnswerShort}
use Rattle.replay_call.proofs.RowsAreTables.{end_beyond}
use Rattle.replay_agreement.specs.Types.{Answer, Event, Row}
use Rattle.replay_agreement.proofs.InRange.{Short, end_in_range, answers_short, table_in_range, entry_in_range}

table_length : (w : ℕ) (rs : List Row) → length (table_of w rs) ≤ length rs
table_length w [] = omega arith
table_length w (x ∷ xs) = go (eqb w x.switch) (table_length w xs)
  where
    go : (b : Bool) → length (table_of w xs) ≤ length xs → length (cond b (x.entry ∷ table_of w xs) (table_of w xs)) ≤ suc (length xs)
    go true ih = omega arith
    go false ih = omega arith

or_silent : (x : Option Answer) → Short x → AnswerShort (given_or Answer.Silent x)
or_silent None h = tt
or_silent (Some a) h = h

module _ (delay : ℕ) (s t : List ℕ) (es : List Event) (rs : List Row) (trace : read_trace delay s ≡ Ok es) (tables : read_tables t ≡ Ok rs) (o : List ℕ) where
  start_in_range : (w : ℕ) → TableInRange (table_of w rs)
  start_in_range w = table_in_range w rs (λ r m. (accepted_range t rs tables r m).entry)

  pub end_rows_in_range : RowsInRange (run_rows es o rs)
  end_rows_in_range r m =
      let here = row_entry r (run_rows es o rs) m in record {
        switch = elim (dec_lt r.switch 16) [
          | yes l ↦ l
          | no l ↦ absurd (Memᴰ.not-nil (subst (Memᴰ r.entry) (end_beyond delay s t es rs trace tables o r.switch (omega arith)) here))
        ];
        entry = entry_in_range (end_tables (operation_at es) o (tables_of rs) r.switch)
            (end_in_range (operation_at es) (λ i. (events_in_range delay s es trace i).effect) o (tables_of rs) start_in_range r.switch)
            r.entry (subst (Memᴰ r.entry) (run_tables es o rs (accepted_sorted t rs tables) r.switch) here);
      }

  pub given_short : check_order delay es o ≡ Ok tt → (i : ℕ) → AnswerShort (given_or Answer.Silent (answers (operation_at es) o (tables_of rs) i))
  given_short order i =
      let few = ((trace_accepted_iff delay s es).0 trace).few in
      let size = (accepted_complete delay es o order).size in
      let held = accepted_length t rs tables in
      or_silent (answers (operation_at es) o (tables_of rs) i)
      (answers_short (operation_at es) (λ k. (events_in_range delay s es trace k).effect) o (tables_of rs) start_in_range (λ w. omega (arith, table_length w rs)) i)
