use mathlib.Core.Path.{sym, ◌∙◌}
use native.Mathlib.Omega.{arith}
use lib.ListN.{length-take}
use lib.Seq.{take-set-lt}
use Rattle.rows_search.proofs.places.put.Goals as goal

pub returns-in-Ok-clause-put : goal.returns-in-Ok-clause-put
returns-in-Ok-clause-put c =
    let there = c.in-Ok.ensures.stands in
    take-set-lt c.args.rows.now.len c.args.rows.now.rows c.in-Ok.at c.args.row (omega (arith, there.within, length-take c.args.rows.now.len c.args.rows.now.rows)) ∙ sym there.puts
