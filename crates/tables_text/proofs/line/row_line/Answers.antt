use Rattle.std.proofs.Common.{sym, ◌∙◌, lit<}
use Rattle.text_numbers.proofs.Format.{keyed_below}
use Rattle.tables_text.proofs.line.row_line.Goals as goal

pub overflow_cast-result : goal.overflow_cast-result
overflow_cast-result c = record { fits = keyed_below _ 256 _ _ _ (lit< tt) (lit< tt) (sym c.number_at.ensures ∙ c.in-Some.is) }
