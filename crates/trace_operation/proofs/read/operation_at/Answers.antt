use Rattle.std.proofs.Common.{sym, ◌∙◌, lit<}
use Rattle.text_numbers.proofs.Format.{keyed_below}
use Rattle.trace_operation.proofs.read.operation_at.Goals as goal

pub overflow_cast-w : goal.overflow_cast-w
overflow_cast-w c = record { fits = keyed_below _ 256 _ _ _ (lit< tt) (lit< tt) (sym c.number_at.ensures ∙ c.in-Some.is) }
