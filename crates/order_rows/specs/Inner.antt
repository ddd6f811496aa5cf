-- Inner: document 01's "What an order of events does" on rows: what an order leaves, and the answers, each kept under its event's
-- number. That it is what is said of tables is proved in proofs/EndTables.antt.
use Rattle.std.specs.Prelude.{cond, List, [], ◌∷◌, ℕ, eqb}
use Rattle.order_meaning.specs.Orders.{run}
use Rattle.rows_step.specs.Stepping.{step_rows, answer_rows}
use Rattle.order_rows.specs.Types.{Answer, Event, Row}
use Rattle.order_rows.specs.Runs.{operation_at}

-- the rows after the events of an order, taken from the front: each meets what the one before it left
unfoldable pub run_rows : List Event → List ℕ → List Row → List Row
run_rows es o rs = run (λ i. step_rows (operation_at es i)) o rs

-- what is kept under number i after the order, if a was kept before it
unfoldable pub kept_in : List Event → ℕ → List ℕ → List Row → Answer → Answer
kept_in es i [] rs a = a
kept_in es i (j ∷ o) rs a = kept_in es i o (step_rows (operation_at es j) rs) (cond (eqb i j) (answer_rows (operation_at es j) rs) a)

-- the answer of event i, kept under its number; silent where it does not stand in the order
unfoldable pub answers_in : List Event → List ℕ → List Row → ℕ → Answer
answers_in es o rs i = kept_in es i o rs Answer.Silent
