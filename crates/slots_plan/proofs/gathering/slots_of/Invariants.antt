-- The slots of the starting rows and of the events below e.
use lib.ListN.{take}
use Rattle.trace_events.specs.Events.{events_of}
use Rattle.slots_plan.proofs.SlotLaws.{Slotted}
use Rattle.slots_plan.proofs.gathering.slots_of.Given as goal

abbrev pub invariant-loop-e : goal.invariant-loop-e
invariant-loop-e l = Slotted (events_of l.t) (take l.initial.slots.len l.initial.slots.rows) l.e l.slots.len l.slots.rows
