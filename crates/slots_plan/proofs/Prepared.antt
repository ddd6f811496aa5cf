-- What is worked out of a trace and its starting rows is what its runs on slots ask for. Assumes nothing.
use mathlib.Core.List.{List, []}
use Prim.Native.Nat.{ℕ, ◌≤◌, ◌<◌}
use lib.ListN.{length, get_or}
use Rattle.rows_step.proofs.Works.{work_for}
use Rattle.order_rows.specs.Runs.{operation_at}
use Rattle.slots.specs.Inner.{StepFor, idle}
use Rattle.slots_plan.specs.Types.{Event, Row, Plan, State}
use Rattle.slots_plan.specs.Inner.{work_at, HasSlots, Marked, Ranked, Planned, StartsAs, Prepares}

module _ (es : List Event) (start slots : List Row) (masks : List (List ℕ)) (plans : List Plan) (priorities : List ℕ) (begun : State) where
  step_for : Marked es slots masks → Planned es slots plans → (e : ℕ) → e < 256 → StepFor slots (operation_at es e) (get_or masks e []) (get_or plans e idle)
  step_for m p e h = record {
    work = work_at es e;
    is_for = work_for _ _;
    marks = m e h;
    change = (p e h).change;
    put = (p e h).put;
    answer = (p e h).answer;
  }

  pub prepared : length slots ≤ 512 → HasSlots es start slots → Marked es slots masks → Planned es slots plans → Ranked slots priorities → StartsAs slots start begun
      → Prepares es start (record { masks = masks; plans = plans; priorities = priorities }) begun
  prepared few s m p r q = record {
    slots = slots;
    slots_of = record { few = few; sorted = s.sorted; steps = step_for m p; ranks = r };
    inside = q.inside;
    rows = q.rows;
  }
