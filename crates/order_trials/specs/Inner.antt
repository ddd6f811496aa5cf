-- Inner: the rows that orders start from.
use Rattle.std.specs.Prelude.{◌≡◌, List, [], ℕ, ◌≤◌, ◌<◌}
use Rattle.flow_table.specs.Switches.{switch_of}
use Rattle.rows.specs.Rows.{SortedRows, table_of}
use Rattle.order_rows.specs.Runs.{operation_at}
use Rattle.order_trials.specs.Types.{Event, Row}

-- the rows of tables of the switches 0 to 15
pub record Held (es : List Event) (rs : List Row) : Type 0 where
  pub sorted : SortedRows rs
  pub switches : (i : ℕ) → switch_of (operation_at es i) < 16
  pub beyond : (w : ℕ) → 16 ≤ w → table_of w rs ≡ []
