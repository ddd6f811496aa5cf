-- What an event does to rows in order: its own switch's table changes as is said under Flow table, all others stay, the answer is
-- that of the tables, the order is kept and at most one row is added. Assumes nothing.
use mathlib.Core.Path.{◌≡◌, refl, sym, ◌∙◌, ap}
use mathlib.Core.Bool.{Bool, true, not, cond}
use mathlib.Core.List.{List}
use Prim.Native.Nat.{ℕ, suc, ◌≤◌}
use native.Mathlib.Omega.{arith}
use lib.Dec.{eqb}
use lib.ListN.{length}
use borrow.Author.Tests.{eqb-true}
use Rattle.flow.specs.Entries.{same_key}
use Rattle.basics.proofs.Booleans.{split, cond_idle}
use Rattle.flow_table.specs.FlowTable.{entry, inside, clash, any_of, effect_of, after, answer}
use Rattle.flow_table.specs.Switches.{switch_of, step_of, answer_of}
use Rattle.rows.specs.Rows.{row, SortedRows, table_of, tables_of, any_row, on_switch}
use Rattle.rows_step.specs.Types.{Operation, Answer, Effect, Row}
use Rattle.rows_step.specs.Stepping.{effect_step, step_rows, effect_answer, answer_rows}
use Rattle.rows.proofs.RowLaws.{sorted_insert_row, sorted_remove, sorted_assign, length_insert, length_remove, length_assign}
use Rattle.rows.proofs.TablesOf.{table_insert, table_remove, table_assign, table_any}

-- ---- the tables
module _ (v : ℕ) (rs : List Row) (s : SortedRows rs) where
  step_table : (w : ℕ) (f : Effect) → table_of v (effect_step w f rs) ≡ cond (eqb v w) (after f (table_of v rs)) (table_of v rs)
  unfolding effect_step after
  step_table w (Effect.Pkt p) = cond_idle (eqb v w) (table_of v rs)
  step_table w (Effect.Add k a) = table_insert v (row w (entry k a)) rs s
  step_table w (Effect.Addc k a) =
      split (any_row (on_switch w (clash k)) rs)
      (λ q. rw q (split (eqb v w) (λ u. rw (u, asked u q) refl) (λ u. rw u refl)))
      (λ q. rw q (table_insert v (row w (entry k a)) rs s ∙ split (eqb v w) (λ u. rw (u, asked u q) refl) (λ u. rw u refl)))
    where
      asked : {b : Bool} → eqb v w ≡ true → any_row (on_switch w (clash k)) rs ≡ b → any_of (clash k) (table_of v rs) ≡ b
      asked u q = ap (λ n. any_of (clash k) (table_of n rs)) (eqb-true v w u) ∙ sym (table_any w (clash k) rs) ∙ q
  step_table w (Effect.Modn k a) =
      split (any_row (on_switch w (inside k.pattern)) rs)
      (λ q. rw q (table_assign w (inside k.pattern) v a rs ∙ split (eqb v w) (λ u. rw (u, asked u q) refl) (λ u. rw u refl)))
      (λ q. rw q (table_insert v (row w (entry k a)) rs s ∙ split (eqb v w) (λ u. rw (u, asked u q) refl) (λ u. rw u refl)))
    where
      asked : {b : Bool} → eqb v w ≡ true → any_row (on_switch w (inside k.pattern)) rs ≡ b → any_of (inside k.pattern) (table_of v rs) ≡ b
      asked u q = ap (λ n. any_of (inside k.pattern) (table_of n rs)) (eqb-true v w u) ∙ sym (table_any w (inside k.pattern) rs) ∙ q
  step_table w (Effect.Dels k) = table_remove w (same_key k) v rs
  step_table w (Effect.Deln m) = table_remove w (inside m) v rs
  step_table w Effect.Idle = cond_idle (eqb v w) (table_of v rs)

  -- switch by switch
  pub step_tables : (o : Operation) → table_of v (step_rows o rs) ≡ step_of o (tables_of rs) v
  unfolding step_rows step_of
  step_tables o = step_table (switch_of o) (effect_of o)

-- the answer
answer_table : (w : ℕ) (f : Effect) (rs : List Row) → effect_answer w f rs ≡ answer f (table_of w rs)
unfolding effect_answer answer
answer_table w (Effect.Pkt p) rs = refl
answer_table w (Effect.Add k a) rs = refl
answer_table w (Effect.Addc k a) rs = ap (λ b. Answer.Done (not b)) (table_any w (clash k) rs)
answer_table w (Effect.Modn k a) rs = refl
answer_table w (Effect.Dels k) rs = refl
answer_table w (Effect.Deln m) rs = refl
answer_table w Effect.Idle rs = refl

pub answer_tables : (o : Operation) (rs : List Row) → answer_rows o rs ≡ answer_of o (tables_of rs)
unfolding answer_rows answer_of
answer_tables o rs = answer_table (switch_of o) (effect_of o) rs

-- ---- the order is kept
sorted_table : (w : ℕ) (f : Effect) (rs : List Row) → SortedRows rs → SortedRows (effect_step w f rs)
unfolding effect_step
sorted_table w (Effect.Pkt p) rs s = s
sorted_table w (Effect.Add k a) rs s = sorted_insert_row (row w (entry k a)) rs s
sorted_table w (Effect.Addc k a) rs s = split (any_row (on_switch w (clash k)) rs) (λ q. rw q s) (λ q. rw q (sorted_insert_row (row w (entry k a)) rs s))
sorted_table w (Effect.Modn k a) rs s =
    split (any_row (on_switch w (inside k.pattern)) rs) (λ q. rw q (sorted_assign (on_switch w (inside k.pattern)) a rs s)) (λ q. rw q (sorted_insert_row (row w (entry k a)) rs s))
sorted_table w (Effect.Dels k) rs s = sorted_remove (on_switch w (same_key k)) rs s
sorted_table w (Effect.Deln m) rs s = sorted_remove (on_switch w (inside m)) rs s
sorted_table w Effect.Idle rs s = s

pub sorted_step : (o : Operation) (rs : List Row) → SortedRows rs → SortedRows (step_rows o rs)
unfolding step_rows
sorted_step o rs s = sorted_table (switch_of o) (effect_of o) rs s

-- ---- at most one row more
length_table : (w : ℕ) (f : Effect) (rs : List Row) → length (effect_step w f rs) ≤ suc (length rs)
unfolding effect_step
length_table w (Effect.Pkt p) rs = omega arith
length_table w (Effect.Add k a) rs = length_insert (row w (entry k a)) rs
length_table w (Effect.Addc k a) rs = split (any_row (on_switch w (clash k)) rs) (λ q. rw q (omega arith)) (λ q. rw q (length_insert (row w (entry k a)) rs))
length_table w (Effect.Modn k a) rs =
    split (any_row (on_switch w (inside k.pattern)) rs)
    (λ q. rw q (omega (arith, length_assign (on_switch w (inside k.pattern)) a rs)))
    (λ q. rw q (length_insert (row w (entry k a)) rs))
length_table w (Effect.Dels k) rs = omega (arith, length_remove (on_switch w (same_key k)) rs)
length_table w (Effect.Deln m) rs = omega (arith, length_remove (on_switch w (inside m)) rs)
length_table w Effect.Idle rs = omega arith

pub length_step : (o : Operation) (rs : List Row) → length (step_rows o rs) ≤ suc (length rs)
unfolding step_rows
length_step o rs = length_table (switch_of o) (effect_of o) rs
