use Rattle.tables_text.proofs.Checks.{sort_told}
use Rattle.tables_text.proofs.read.sort_rows.Goals as goal

pub returns : goal.returns
returns c = sort_told _ c.sort.result c.args.lines.len c.sort.ensures.sorts c.sort.ensures.few c.requires c.map_err.ensures.cases
