use mathlib.Core.Bool.{or-false}
use Rattle.happens_before.proofs.sets.join_if.Goals as goal

pub returns-then-asked : goal.returns-then-asked
returns-then-asked c k = simp (c.union.ensures k, c.with.ensures k, c.if-asked.true)

pub returns-else-asked : goal.returns-else-asked
returns-else-asked c k = simp (c.if-asked.false, or-false)
