-- The starting rows so far are held.
use Rattle.rows.specs.Rows.{rows_of}
use Rattle.slots_plan.proofs.StartLaws.{Starting}
use Rattle.slots_plan.proofs.start.start_of.Given as goal

abbrev pub invariant-loop-row : goal.invariant-loop-row
invariant-loop-row l = Starting (rows_of l.slots) l.row-items l.row-index l.set l.actions
