use mathlib.Core.Path.{sym, ◌∙◌}
use Rattle.text_lines.proofs.LimitLaws.{limit_within}
use Rattle.tables_text.proofs.read.read_tables.Goals as goal

pub read_rows-requires : goal.read_rows-requires
read_rows-requires c = (limit_within _ (sym c.limit_of.ensures ∙ c.in_default.is)).few
