-- Document 01, "What an order of events does": when two orders agree, as a test. That it is equality of the tables of all switches and of
-- all answers is proved in proofs/Agreeing.antt.
use Rattle.std.specs.Prelude.{Bool, true, false, not, ◌&&◌, ◌||◌, List, [], ◌∷◌, ℕ, eqb, length, Option, None, Some}
use Rattle.basics.specs.Searches.{all_below}
use Rattle.flow.specs.Entries.{same_key, same_action}
use Rattle.flow_table.specs.FlowTable.{Table}
use Rattle.flow_table.specs.Switches.{Tables}
use Rattle.replay_answers.specs.Answers.{is_silent}
use Rattle.order_meaning.specs.Tables.{end_tables, answers}
use Rattle.order_rows.specs.Runs.{operation_at}
use Rattle.order_trials.specs.Types.{Action, Answer, Event}

-- the same entries, in table order
abbrev pub same_table : Table → Table → Bool
same_table [] [] = true
same_table [] (f ∷ u) = false
same_table (e ∷ t) [] = false
same_table (e ∷ t) (f ∷ u) = (same_key e.key f.key && same_action e.action f.action) && same_table t u

abbrev pub is_miss : Answer → Bool
is_miss Answer.Silent = false
is_miss Answer.Miss = true
is_miss (Answer.Hit priority count a) = false
is_miss (Answer.Done b) = false

abbrev pub is_hit : ℕ → ℕ → Action → Answer → Bool
is_hit priority count action Answer.Silent = false
is_hit priority count action Answer.Miss = false
is_hit priority count action (Answer.Hit p n a) = (eqb priority p && eqb count n) && same_action action a
is_hit priority count action (Answer.Done b) = false

abbrev pub is_done : Bool → Answer → Bool
is_done done Answer.Silent = false
is_done done Answer.Miss = false
is_done done (Answer.Hit p n a) = false
is_done done (Answer.Done b) = (done && b) || (not done && not b)

-- the same answer: none in both, a miss in both, equal priority, count and action, or done in both or in neither
abbrev pub same_answer : Answer → Answer → Bool
same_answer Answer.Silent b = is_silent b
same_answer Answer.Miss b = is_miss b
same_answer (Answer.Hit priority count action) b = is_hit priority count action b
same_answer (Answer.Done done) b = is_done done b

abbrev pub same_given : Option Answer → Option Answer → Bool
same_given None None = true
same_given None (Some b) = false
same_given (Some a) None = false
same_given (Some a) (Some b) = same_answer a b

-- from these starting tables both orders leave each of the switches 0 to 15 the same table, and give each event the same answer
unfoldable pub agreeing : List Event → Tables → List ℕ → List ℕ → Bool
agreeing es start o q =
    all_below (λ w. same_table (end_tables (operation_at es) o start w) (end_tables (operation_at es) q start w)) 16
    && all_below (λ i. same_given (answers (operation_at es) o start i) (answers (operation_at es) q start i)) (length es)
