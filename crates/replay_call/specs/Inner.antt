-- Inner: the later checks of a replay by themselves, on tables and on the rows that hold them.
use Rattle.std.specs.Prelude.{List, ℕ, length}
use Rattle.refusals.specs.Checks.{Checked, ◌▹◌}
use Rattle.flow_table.specs.Switches.{Tables}
use Rattle.order_check.specs.Schedule.{check_order}
use Rattle.order_rows.specs.Inner.{run_rows, answers_in}
use Rattle.replay_texts.specs.Writing.{Replayed}
use Rattle.replay_texts.specs.Inner.{both_texts, fitting_both}
use Rattle.replay_call.specs.Types.{Event, Row}
use Rattle.replay_call.specs.Replay.{texts_of}

-- 21, 22; 32, 33
abbrev pub from_tables : ℕ → List Event → Tables → List ℕ → ℕ → ℕ → Checked Replayed
from_tables delay es start o room room' = check_order delay es o ▹ λ _. fitting_both (texts_of es o start) room room'

-- both texts, of an order of the events from the rows of a table text
unfoldable pub row_texts : List Event → List ℕ → List Row → Replayed
row_texts es o rs = both_texts (run_rows es o rs) (answers_in es o rs) (length es)

-- on rows: 21, 22; 32, 33
abbrev pub ordered_from : ℕ → List Event → List Row → List ℕ → ℕ → ℕ → Checked Replayed
ordered_from delay es rs o room room' = check_order delay es o ▹ λ _. fitting_both (row_texts es o rs) room room'
