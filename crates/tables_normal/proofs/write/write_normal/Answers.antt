use native.Mathlib.Omega.{arith}
use lib.ListN.{take, length-take}
use Rattle.text_numbers.proofs.Writing.{put_from}
use Rattle.tables_normal.proofs.Writing.{normal_none, normal_more, normal_all, line_room}
use Rattle.tables_normal.proofs.write.write_normal.Goals as goal

pub loop-row-init : goal.loop-row-init
loop-row-init c = (omega arith, normal_none (take c.args.rows.len c.args.rows.rows) _)

pub overflow_add-at : goal.overflow_add-at
overflow_add-at c = omega (arith, line_room _ _ _ _ c.put_row-more.ensures, length-take c.args.rows.len c.args.rows.rows)

pub loop-row-preserved : goal.loop-row-preserved
loop-row-preserved c = (
  omega (arith, line_room _ _ _ _ c.put_row-more.ensures),
  normal_more _ _ _ c.loop-row-test.true c.loop-row.invariant.1 (put_from c.min-from.ensures c.put_row-more.ensures),
)

pub returns : goal.returns
returns c = normal_all _ _ c.loop-row-test.false c.loop-row.invariant.1
