-- Document 01, "What an order of events does": long enough buffers, and what a replay leaves in them.
use Rattle.std.specs.Prelude.{◌≡◌, List, ℕ, length, Err, Ok}
use Rattle.basics.specs.Text.{starting_with}
use Rattle.refusals.specs.Checks.{written}
use Rattle.replay_texts.specs.Writing.{replay_answer, tables_to_write, answers_to_write}
use Rattle.replay_call.specs.Replay.{replayed}
use Rattle.replay_agreement.specs.Types.{Refusal}

-- buffers are long enough if neither 32 nor 33 applies
pub record LongEnough (delay : ℕ) (trace tables o : List ℕ) (room room' : ℕ) : Type 0 where
  pub tables_fit : (n : ℕ) → replayed delay trace tables o room room' ≡ Err (Refusal.TablesShort n) → ⊥
  pub answers_fit : (n : ℕ) → replayed delay trace tables o room room' ≡ Err (Refusal.AnswersShort n) → ⊥

-- a replay into these two buffers returns the lengths of the two texts and writes them, each from its buffer's start, the bytes past
-- it unchanged
pub record Writes (delay : ℕ) (ends answers : List ℕ) (trace tables o old old' : List ℕ) : Type 0 where
  pub returned : replay_answer (replayed delay trace tables o (length old) (length old')) ≡ Ok (length ends, length answers)
  pub tables_written : written (tables_to_write (replayed delay trace tables o (length old) (length old'))) old ≡ starting_with ends old
  pub answers_written : written (answers_to_write (replayed delay trace tables o (length old) (length old'))) old' ≡ starting_with answers old'
