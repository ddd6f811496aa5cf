use mathlib.Core.Path.{sym, ◌∙◌}
use Rattle.text_lines.proofs.LimitLaws.{limit_within}
use Rattle.trace_text.proofs.text.read_trace.Goals as goal

pub read_events-requires : goal.read_events-requires
read_events-requires c = (limit_within _ (sym c.limit_of.ensures ∙ c.in_default.is)).few
