-- What an order does to rows is what it does to the tables of the switches: the end tables (`run_tables`) and the answers
-- (`run_answers`). Rows in order stay so (`run_sorted`), with at most one row more for each event (`run_length`) and none on a switch
-- that neither they nor the events have (`run_beyond`). Assumes nothing.
use mathlib.Core.Path.{◌≡◌, refl, ap, ◌∙◌, fun_ext}
use mathlib.Core.Bool.{Bool, true, false, ◌&&◌, ◌||◌, cond}
use Rattle.std.specs.Prelude.{Some}
use mathlib.Core.List.{List, [], ◌∷◌}
use Prim.Native.Nat.{ℕ, ◌+◌, ◌≤◌, ◌<◌}
use native.Mathlib.Omega.{arith}
use lib.Dec.{eqb}
use lib.ListN.{length}
use borrow.Author.Tests.{ne_eqb}
use Rattle.basics.proofs.Booleans.{or_left, or_right}
use Rattle.order_meaning.specs.Orders.{run, answer_in, stands, IsOrderOf}
use Rattle.basics.specs.Searches.{has}
use Rattle.order_meaning.specs.Tables.{end_tables, answers}
use Rattle.flow_table.specs.Switches.{Tables, switch_of, step_of, answer_of}
use Rattle.order_meaning.proofs.OrderLaws.{not_twice}
use Rattle.rows.specs.Rows.{SortedRows, table_of, tables_of}
use Rattle.rows_step.specs.Stepping.{step_rows, answer_rows}
use Rattle.rows_step.proofs.Steps.{step_tables, answer_tables, sorted_step, length_step}
use Rattle.order_rows.specs.Types.{Operation, Answer, Event, Row}
use Rattle.order_rows.specs.Runs.{operation_at, given_or}
use Rattle.order_rows.specs.Inner.{run_rows, kept_in, answers_in}

module _ (ev : ℕ → Operation) where
  stepped : (i : ℕ) (rs : List Row) → SortedRows rs → tables_of (step_rows (ev i) rs) ≡ step_of (ev i) (tables_of rs)
  stepped i rs s = fun_ext (λ w. step_tables w rs s (ev i))

  tables_by : (o : List ℕ) (rs : List Row) → SortedRows rs → tables_of (run (λ i. step_rows (ev i)) o rs) ≡ end_tables ev o (tables_of rs)
  tables_by [] rs s = refl
  tables_by (i ∷ o) rs s = tables_by o (step_rows (ev i) rs) (sorted_step (ev i) rs s) ∙ ap (end_tables ev o) (stepped i rs s)

  answers_by : (o : List ℕ) (rs : List Row) → SortedRows rs → (i : ℕ)
      → answer_in (λ k. step_rows (ev k)) (λ k. answer_rows (ev k)) o rs i ≡ answers ev o (tables_of rs) i
  answers_by [] rs s i = refl
  answers_by (j ∷ o) rs s i =
      ap (λ a. cond (eqb i j) (Some a) (answer_in (λ k. step_rows (ev k)) (λ k. answer_rows (ev k)) o (step_rows (ev j) rs) i)) (answer_tables (ev j) rs)
      ∙ ap (λ r. cond (eqb i j) (Some (answer_of (ev j) (tables_of rs))) r) (answers_by o (step_rows (ev j) rs) (sorted_step (ev j) rs s) i ∙ ap (λ t. answers ev o t i) (stepped j rs s))

  -- the table of a switch that no event has stays
  end_beyond : (n : ℕ) → ((i : ℕ) → switch_of (ev i) < n) → (o : List ℕ) (ts : Tables) (w : ℕ) → n ≤ w → end_tables ev o ts w ≡ ts w
  unfolding step_of
  end_beyond n h [] ts w l = refl
  end_beyond n h (i ∷ o) ts w l = end_beyond n h o (step_of (ev i) ts) w l ∙ rw (ne_eqb w (switch_of (ev i)) (λ e. omega (arith, h i))) refl

module _ (es : List Event) where
  -- switch by switch, the end tables
  pub run_tables : (o : List ℕ) (rs : List Row) → SortedRows rs → (w : ℕ) → table_of w (run_rows es o rs) ≡ end_tables (operation_at es) o (tables_of rs) w
  unfolding run_rows
  run_tables o rs s w = ap (λ t. t w) (tables_by (operation_at es) o rs s)

  -- no row on a switch past n, where neither the rows nor the events have one
  pub run_beyond : (n : ℕ) → ((i : ℕ) → switch_of (operation_at es i) < n) → (o : List ℕ) (rs : List Row) → SortedRows rs → ((w : ℕ) → n ≤ w → table_of w rs ≡ [])
      → (w : ℕ) → n ≤ w → table_of w (run_rows es o rs) ≡ []
  run_beyond n h o rs s none w l = run_tables o rs s w ∙ end_beyond (operation_at es) n h o (tables_of rs) w l ∙ none w l

  -- rows in order stay so
  pub run_sorted : (o : List ℕ) (rs : List Row) → SortedRows rs → SortedRows (run_rows es o rs)
  unfolding run_rows
  run_sorted [] rs s = s
  run_sorted (i ∷ o) rs s = run_sorted o (step_rows (operation_at es i) rs) (sorted_step (operation_at es i) rs s)

  -- after any part of an order at most one row more for each event
  pub run_length : (o : List ℕ) (rs : List Row) → length (run_rows es o rs) ≤ length rs + length o
  unfolding run_rows
  run_length [] rs = omega arith
  run_length (i ∷ o) rs = omega (arith, run_length o (step_rows (operation_at es i) rs), length_step (operation_at es i) rs)

  -- ---- the answers
  pub kept_absent : (i : ℕ) (o : List ℕ) (rs : List Row) (a : Answer) → has i o ≡ false → kept_in es i o rs a ≡ a
  unfolding kept_in
  kept_absent i [] rs a h = refl
  kept_absent i (j ∷ o) rs a h =
      rw (or_left (eqb i j) (has i o) h) (kept_absent i o (step_rows (operation_at es j) rs) a (or_right (eqb i j) (has i o) h))

  -- an event that stands at most once keeps its answer
  kept_answer : (i : ℕ) (o : List ℕ) (rs : List Row) (a : Answer) → stands i i o ≡ false
      → kept_in es i o rs a ≡ given_or a (answer_in (λ k. step_rows (operation_at es k)) (λ k. answer_rows (operation_at es k)) o rs i)
  unfolding kept_in
  kept_answer i [] rs a h = refl
  kept_answer i (j ∷ o) rs a h = go (eqb i j) h (kept_answer i o (step_rows (operation_at es j) rs) a)
    where
      go : (b : Bool) → ((b && has i o) || stands i i o) ≡ false
          → (stands i i o ≡ false → kept_in es i o (step_rows (operation_at es j) rs) a ≡ given_or a (answer_in (λ k. step_rows (operation_at es k)) (λ k. answer_rows (operation_at es k)) o (step_rows (operation_at es j) rs) i))
          → kept_in es i o (step_rows (operation_at es j) rs) (cond b (answer_rows (operation_at es j) rs) a)
          ≡ given_or a (cond b (Some (answer_rows (operation_at es j) rs)) (answer_in (λ k. step_rows (operation_at es k)) (λ k. answer_rows (operation_at es k)) o (step_rows (operation_at es j) rs) i))
      go true k ih = kept_absent i o (step_rows (operation_at es j) rs) (answer_rows (operation_at es j) rs) (or_left (has i o) (stands i i o) k)
      go false k ih = ih k

  -- the answers are those of the tables
  pub run_answers : (n : ℕ) (o : List ℕ) → IsOrderOf n o → (rs : List Row) → SortedRows rs → (i : ℕ)
      → answers_in es o rs i ≡ given_or Answer.Silent (answers (operation_at es) o (tables_of rs) i)
  unfolding answers_in
  run_answers n o p rs s i = kept_answer i o rs Answer.Silent (not_twice p i) ∙ ap (given_or Answer.Silent) (answers_by (operation_at es) o rs s i)
