-- Inner: the later checks of the call by themselves, and what is worked out once for all orders.
use Rattle.std.specs.Prelude.{◌≡◌, List, ℕ, length, Ok}
use Rattle.refusals.specs.Checks.{Checked, ◌▹◌, refuse_if, refuse_short, written}
use Rattle.flow_table.specs.Switches.{Tables}
use Rattle.happens_before.specs.Inner.{HappensBefore}
use Rattle.order_rows.specs.Runs.{recorded}
use Rattle.order_trials.specs.Trials.{uneven, order_bytes}
use Rattle.order_trials.specs.Inner.{Held}
use Rattle.slots.specs.Inner.{SlotsOf, Inside}
use Rattle.slots_run.specs.Inner.{EndsAs, rows_in}
use Rattle.trials_call.specs.Types.{Refusal, Event, Row, Ended, Steps, State}
use Rattle.trials_call.specs.Tried.{trials_answer}

-- 52; 53; then the bytes
abbrev pub tried_from : ℕ → List Event → Tables → List ℕ → ℕ → Checked (List ℕ)
tried_from delay es start os room =
    refuse_if (uneven (length es) (length os)) Refusal.OrdersUneven ▹ λ _.
    refuse_short room (order_bytes delay es start os) Refusal.TrialsShort ▹ λ _.
    Ok (order_bytes delay es start os)

-- an answer and a buffer, before and after, are as the call leaves them
pub record Leaves (y : Checked (List ℕ)) (r : Checked ℕ) (old new : List ℕ) : Type 0 where
  pub answer : r ≡ trials_answer y
  pub bytes : new ≡ written y old

-- it is that of the events from the rows: happens-before, the slots with the steps of all events, and the starting rows as slots
pub record From (delay : ℕ) (es : List Event) (rs : List Row) (n : ℕ) (earlier : List (List ℕ)) (steps : Steps) (begun : State) : Type 0 where
  pub count : n ≡ length es
  pub held : Held es rs
  pub before : HappensBefore delay es earlier
  pub slots : List Row
  pub slots_of : SlotsOf es slots steps
  pub inside : Inside slots begun.set
  pub rows : rows_in slots begun ≡ rs

-- and the end is that of the recorded order
pub record Ready (delay : ℕ) (es : List Event) (rs : List Row) (n : ℕ) (earlier : List (List ℕ)) (steps : Steps) (begun : State) (end : Ended) : Type 0 where
  pub start : From delay es rs n earlier steps begun
  pub ends : EndsAs es start.slots (recorded es) begun end
