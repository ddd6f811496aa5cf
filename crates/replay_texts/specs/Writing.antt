-- Document 01, "Tables and replay": the two texts that a replay writes, and what it answers.
use Rattle.std.specs.Prelude.{List, ℕ, length, Ok}
use Rattle.refusals.specs.Checks.{Checked, ◌▹◌}

-- what a replay writes: the normalised end tables, and the answers by rising event
pub record Replayed : Type 0 where
  pub tables : List ℕ
  pub answers : List ℕ

-- what is returned: both lengths, or the refusal
abbrev pub replay_answer : Checked Replayed → Checked (ℕ × ℕ)
replay_answer y = y ▹ λ x. Ok (length x.tables, length x.answers)

-- what is written into each buffer
abbrev pub tables_to_write : Checked Replayed → Checked (List ℕ)
tables_to_write y = y ▹ λ x. Ok x.tables

abbrev pub answers_to_write : Checked Replayed → Checked (List ℕ)
answers_to_write y = y ▹ λ x. Ok x.answers
