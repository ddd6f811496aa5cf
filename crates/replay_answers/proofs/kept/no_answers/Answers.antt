use mathlib.Core.Path.{refl}
use Rattle.replay_answers.proofs.AnswerLaws.{none_kept_lem}
use Rattle.replay_answers.proofs.kept.no_answers.Goals as goal

pub returns : goal.returns
returns c = (refl, none_kept_lem 256)
