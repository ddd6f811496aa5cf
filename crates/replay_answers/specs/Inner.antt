-- Inner: the answers that an array keeps.
use Rattle.std.specs.Prelude.{List, ℕ, get_or}
use Rattle.replay_answers.specs.Types.{Answer, Kept}

-- the answers that an array keeps
abbrev pub kept : Answer → Kept
kept a = record { answer = a }

abbrev pub no_answer : Kept
no_answer = kept Answer.Silent

abbrev pub kept_at : List Kept → ℕ → Answer
kept_at ks i = (get_or ks i no_answer).answer
