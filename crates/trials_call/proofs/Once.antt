-- What is worked out once is that of the events from the rows. Assumes nothing.
use mathlib.Core.Path.{◌≡◌, sym}
use mathlib.Core.Bool.{true}
use mathlib.Core.List.{List}
use Prim.Native.Nat.{ℕ, ◌<◌}
use native.Mathlib.Omega.{arith}
use lib.ListN.{length}
use Rattle.happens_before.specs.Inner.{bit, HappensBefore}
use Rattle.order_check.proofs.ByRows.{rows_inside}
use Rattle.order_trials.specs.Inner.{Held}
use Rattle.slots_plan.specs.Inner.{Prepares}
use Rattle.trials_call.specs.Types.{Event, Row, Steps, State}
use Rattle.trials_call.specs.Inner.{From}

module _ (delay : ℕ) (es : List Event) (n : ℕ) (count : length es ≡ n) (earlier : List (List ℕ)) (before : HappensBefore delay es earlier) where
  -- only numbers of events stand before others
  pub events_only : (i j : ℕ) → bit earlier i j ≡ true → i < n
  events_only i j e = omega (arith, rows_inside delay es earlier before i j e)

pub from_rows : (delay : ℕ) (es : List Event) (rs : List Row) (n : ℕ) → length es ≡ n → (earlier : List (List ℕ)) (steps : Steps) (begun : State) → HappensBefore delay es earlier → Prepares es rs steps begun
    → Held es rs → From delay es rs n earlier steps begun
from_rows delay es rs n count earlier steps begun before prepares held = record {
  count = sym count;
  held = held;
  before = before;
  slots = prepares.slots;
  slots_of = prepares.slots_of;
  inside = prepares.inside;
  rows = prepares.rows;
}
