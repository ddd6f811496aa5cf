use mathlib.Core.Path.{ap, ◌∙◌}
use Rattle.exports_values.specs.Values.{replay_as}
use borrow.Author.Rules.{rules}
use Rattle.exports.proofs.gellunka_replay.Goals as goal

pub returns : goal.returns
returns c = record { value = c.replay_as.ensures ∙ ap (replay_as _ _) c.replay-answer.ensures.value; out_after = c.replay-answer.ensures.tables_out_after; answered_after = c.replay-answer.ensures.answers_out_after }
