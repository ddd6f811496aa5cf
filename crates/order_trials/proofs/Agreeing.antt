-- The tests of two orders are equality: of tables (`same_table_iff`), of answers, and so of what two orders leave and
-- answer (`agreeing_iff`). Assumes nothing.
use mathlib.Core.Path.{◌≡◌, refl, ap}
use mathlib.Core.Bool.{Bool, true, ◌&&◌, false≢true}
use mathlib.Core.Logic.{◌↔◌}
use mathlib.Core.List.{List, [], ◌∷◌}
use Rattle.std.specs.Prelude.{Option, None, Some}
use Prim.Native.Nat.{ℕ, ◌<◌}
use lib.ListN.{length}
use Rattle.basics.specs.Searches.{all_below}
use Rattle.basics.proofs.Booleans.{and_intro, and_left, and_right}
use Rattle.basics.proofs.Searches.{all_at, all_of}
use Rattle.flow.specs.Entries.{same_key, same_action}
use Rattle.flow.proofs.Entries.{same_iff, action_iff}
use Rattle.flow_table.specs.FlowTable.{Table}
use Rattle.flow_table.specs.Switches.{Tables}
use Rattle.order_meaning.specs.Tables.{end_tables, answers}
use Rattle.order_rows.specs.Runs.{operation_at}
use Rattle.order_trials.specs.Types.{Answer, Event}
use Rattle.order_trials.specs.Same.{same_table, same_given, agreeing}
use Rattle.order_trials.proofs.SameAnswers.{same_answer_iff}

-- ---- tables
table_self : (t : Table) → same_table t t ≡ true
table_self [] = refl
table_self (e ∷ t) = and_intro (and_intro ((same_iff e.key e.key).1 refl) ((action_iff e.action e.action).1 refl)) (table_self t)

table_eq : (t u : Table) → same_table t u ≡ true → t ≡ u
table_eq [] [] h = refl
table_eq [] (f ∷ u) h = absurd (false≢true h)
table_eq (e ∷ t) [] h = absurd (false≢true h)
table_eq (e ∷ t) (f ∷ u) h =
    let heads = and_left _ (same_table t u) h in
    let keys = (same_iff e.key f.key).0 (and_left _ (same_action e.action f.action) heads) in
    let actions = (action_iff e.action f.action).0 (and_right (same_key e.key f.key) _ heads) in
    let rest = table_eq t u (and_right (same_key e.key f.key && same_action e.action f.action) _ h) in
    λ i. record { key = keys i; action = actions i } ∷ rest i

pub same_table_iff : (t u : Table) → (same_table t u ≡ true) ↔ (t ≡ u)
same_table_iff t u = (table_eq t u, λ e. rw e (table_self u))

-- ---- answers
given_self : (a : Option Answer) → same_given a a ≡ true
given_self None = refl
given_self (Some a) = (same_answer_iff a a).1 refl

given_eq : (a b : Option Answer) → same_given a b ≡ true → a ≡ b
given_eq None None h = refl
given_eq None (Some b) h = absurd (false≢true h)
given_eq (Some a) None h = absurd (false≢true h)
given_eq (Some a) (Some b) h = ap Some ((same_answer_iff a b).0 h)

-- ---- two orders
module _ (es : List Event) (start : Tables) (o q : List ℕ) where
  -- the test of a switch, and of an event
  abbrev table_test : ℕ → Bool
  table_test w = same_table (end_tables (operation_at es) o start w) (end_tables (operation_at es) q start w)

  abbrev answer_test : ℕ → Bool
  answer_test i = same_given (answers (operation_at es) o start i) (answers (operation_at es) q start i)

  pub agreeing_iff : (agreeing es start o q ≡ true)
      ↔ (((w : ℕ) → w < 16 → end_tables (operation_at es) o start w ≡ end_tables (operation_at es) q start w)
      × ((i : ℕ) → i < length es → answers (operation_at es) o start i ≡ answers (operation_at es) q start i))
  unfolding agreeing
  agreeing_iff = (
    λ h. (
      λ w l. table_eq _ _ (all_at table_test 16 w l (and_left (all_below table_test 16) (all_below answer_test (length es)) h)),
      λ i l. given_eq _ _ (all_at answer_test (length es) i l (and_right (all_below table_test 16) (all_below answer_test (length es)) h)),
    ),
    λ h. and_intro (all_of table_test 16 (λ w l. (same_table_iff _ _).1 (h.0 w l))) (all_of answer_test (length es) (λ i l. rw (h.1 i l) (given_self (answers (operation_at es) q start i)))),
  )
