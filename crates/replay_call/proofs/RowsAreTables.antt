-- What the replay call does on rows is what is defined on tables: for an accepted trace and table text the text of the end rows is that
-- of the end tables (`end_text`), and with an accepted order both texts are (`texts_are`). Assumes nothing.
use Rattle.std.specs.Prelude.{Ok, Err}
use mathlib.Core.Path.{◌≡◌, refl, ap, ◌∙◌, fun_ext}
use mathlib.Core.List.{List, []}
use Prim.Native.Nat.{ℕ, ◌≤◌}
use lib.ListN.{length}
use Rattle.refusals.specs.Checks.{Checked, ◌▹◌}
use Rattle.order_meaning.specs.Tables.{end_tables}
use Rattle.rows.specs.Rows.{SortedRows, table_of, tables_of}
use Rattle.trace_text.specs.TraceText.{read_trace}
use Rattle.trace_text.proofs.Accepted.{events_in_range}
use Rattle.tables_text.specs.TableText.{read_tables}
use Rattle.tables_text.proofs.Accepted.{accepted_sorted}
use Rattle.tables_normal.specs.Normal.{normal_text, tables_text}
use Rattle.tables_normal.proofs.OfTables.{normal_tables, accepted_beyond}
use Rattle.order_check.specs.Schedule.{check_order}
use Rattle.order_check.proofs.Accepted.{accepted_complete}
use Rattle.order_rows.specs.Runs.{operation_at}
use Rattle.order_rows.specs.Inner.{run_rows}
use Rattle.order_rows.proofs.EndTables.{run_tables, run_answers, run_sorted, run_beyond}
use Rattle.replay_answers.specs.Answers.{answers_text}
use Rattle.replay_texts.specs.Inner.{both_texts, fitting_both}
use Rattle.replay_call.specs.Types.{Event, Row}
use Rattle.replay_call.specs.Replay.{answer_lines, texts_of}
use Rattle.replay_call.specs.Inner.{from_tables, row_texts, ordered_from}

module _ (delay : ℕ) (s t : List ℕ) (es : List Event) (rs : List Row) (trace : read_trace delay s ≡ Ok es) (tables : read_tables t ≡ Ok rs) where
  sorted : SortedRows rs
  sorted = accepted_sorted t rs tables

  pub end_beyond : (q : List ℕ) (w : ℕ) → 16 ≤ w → table_of w (run_rows es q rs) ≡ []
  end_beyond q = run_beyond es 16 (λ i. (events_in_range delay s es trace i).switch) q rs sorted (accepted_beyond t rs tables)

  -- of any part of an order: the text of the end rows
  pub end_text : (q : List ℕ) → normal_text (run_rows es q rs) ≡ tables_text (end_tables (operation_at es) q (tables_of rs))
  end_text q = normal_tables (run_rows es q rs) (run_sorted es q rs sorted) (end_beyond q) ∙ ap tables_text (fun_ext (run_tables es q rs sorted))

  module _ (o : List ℕ) where
    pub texts_are : check_order delay es o ≡ Ok tt → row_texts es o rs ≡ texts_of es o (tables_of rs)
    unfolding row_texts answer_lines both_texts
    texts_are order =
        let given = fun_ext (run_answers es (length es) o (accepted_complete delay es o order) rs sorted) in
        λ i. record { tables = end_text o i; answers = answers_text (given i) (length es) }

    -- the checks on rows are those on tables
    pub checks_are : (a b : ℕ) → ordered_from delay es rs o a b ≡ from_tables delay es (tables_of rs) o a b
    checks_are a b = go (check_order delay es o) refl
      where
        go : (x : Checked (Unit {0})) → check_order delay es o ≡ x
            → (x ▹ λ _. fitting_both (row_texts es o rs) a b) ≡ (x ▹ λ _. fitting_both (texts_of es o (tables_of rs)) a b)
        go (Err r) e = refl
        go (Ok u) e = λ i. fitting_both (texts_are e i) a b
