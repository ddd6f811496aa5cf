-- How many entries are held while an order of events is taken from the tables of a text.
use Rattle.std.specs.Prelude.{List, ℕ, ◌≤◌, length, take}
use Rattle.flow_table.specs.Switches.{entries_held}
use Rattle.order_meaning.specs.Tables.{end_tables}
use Rattle.rows.specs.Rows.{tables_of}
use Rattle.order_rows.specs.Runs.{operation_at}
use Rattle.order_rows.specs.Inner.{run_rows}
use Rattle.replay_call.specs.Types.{Event, Row}

-- never more than 512, after every part of the order: the entries that any number of switches hold together, and the rows
pub record NeverOver (es : List Event) (o : List ℕ) (rs : List Row) : Type 0 where
  pub entries : (k n : ℕ) → entries_held n (end_tables (operation_at es) (take k o) (tables_of rs)) ≤ 512
  pub rows : (k : ℕ) → length (run_rows es (take k o) rs) ≤ 512
