-- Inner: what the functions that write both texts leave.
use Rattle.std.specs.Prelude.{◌≡◌, List, ℕ, Ok}
use Rattle.tables_normal.specs.Normal.{normal_text}
use Rattle.replay_answers.specs.Answers.{answers_text}
use Rattle.refusals.specs.Checks.{Checked, ◌▹◌, refuse_short, written}
use Rattle.replay_texts.specs.Types.{Refusal, Answer, Row}
use Rattle.replay_texts.specs.Writing.{Replayed, replay_answer, tables_to_write, answers_to_write}

-- both texts, of the end rows and the answers of the events below n
unfoldable pub both_texts : List Row → (ℕ → Answer) → ℕ → Replayed
both_texts rs given n = record { tables = normal_text rs; answers = answers_text given n }

-- 32; 33; then both texts
abbrev pub fitting_both : Replayed → ℕ → ℕ → Checked Replayed
fitting_both x room room' =
    refuse_short room x.tables Refusal.TablesShort ▹ λ _.
    refuse_short room' x.answers Refusal.AnswersShort ▹ λ _.
    Ok x

-- an answer and two buffers, before and after, are as a replay leaves them
pub record Leaves (y : Checked Replayed) (r : Checked (ℕ × ℕ)) (old new old' new' : List ℕ) : Type 0 where
  pub answer : r ≡ replay_answer y
  pub tables : new ≡ written (tables_to_write y) old
  pub answers : new' ≡ written (answers_to_write y) old'
