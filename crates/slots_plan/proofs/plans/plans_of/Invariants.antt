-- The events below e have their plans.
use Prim.Native.Nat.{ℕ, ◌<◌}
use mathlib.Core.Path.{◌≡◌}
use lib.ListN.{length, get_or}
use Rattle.rows.specs.Rows.{rows_of}
use Rattle.trace_events.specs.Events.{events_of}
use Rattle.slots.specs.Inner.{idle}
use Rattle.slots_plan.specs.Inner.{work_at, PlanFor}
use Rattle.slots_plan.proofs.plans.plans_of.Given as goal

abbrev pub invariant-loop-e : goal.invariant-loop-e
invariant-loop-e l = (length l.plans ≡ 256) × ((k : ℕ) → k < l.e → PlanFor (rows_of l.slots) (work_at (events_of l.t) k) (get_or l.plans k idle))
