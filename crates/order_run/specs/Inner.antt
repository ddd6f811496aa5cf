-- Inner: what running an order gives.
use Rattle.std.specs.Prelude.{◌≡◌, List, ℕ, ◌+◌, ◌≤◌, length}
use Rattle.rows.specs.Rows.{rows_of}
use Rattle.replay_answers.specs.Inner.{kept_at}
use Rattle.order_rows.specs.Inner.{run_rows, answers_in}
use Rattle.order_run.specs.Types.{Event, Rows, Ran}

-- what running an order from the starting rows gives: the rows, the answers, and at most one row more for each event
pub record RunsTo (es : List Event) (o : List ℕ) (start : Rows) (r : Ran) : Type 0 where
  pub rows : rows_of r.rows ≡ run_rows es o (rows_of start)
  pub answers : (i : ℕ) → kept_at r.answers i ≡ answers_in es o (rows_of start) i
  pub size : r.rows.len ≤ start.len + length o
