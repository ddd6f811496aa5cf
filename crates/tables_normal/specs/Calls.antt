-- Document 01, "Tables and replay": long enough buffers, what a call of the normaliser leaves in one, and when two calls leave the
-- same bytes.
use Rattle.std.specs.Prelude.{List, ◌≡◌, ℕ, ◌≤◌, length, take, Err, Ok}
use Rattle.basics.specs.Text.{starting_with}
use Rattle.refusals.specs.Checks.{written}
use Rattle.tables_normal.specs.Types.{Refusal}
use Rattle.tables_normal.specs.Normal.{normalised, normal_answer}

-- a buffer is long enough if 32 does not apply
abbrev pub NormalFits : List ℕ → ℕ → Type 0
NormalFits tables room = (n : ℕ) → normalised tables room ≡ Err (Refusal.TablesShort n) → ⊥

-- the call returns the length of this text, which the buffer holds, and writes it from the buffer's start
pub record WritesNormal (text tables old : List ℕ) : Type 0 where
  pub fits : length text ≤ length old
  pub returned : normal_answer (normalised tables (length old)) ≡ Ok (length text)
  pub buffer : written (normalised tables (length old)) old ≡ starting_with text old

-- two calls return the same length, and so many bytes of their buffers are the same after them
pub record SameBytes (t u old new : List ℕ) : Type 0 where
  pub size : ℕ
  pub first : normal_answer (normalised t (length old)) ≡ Ok size
  pub second : normal_answer (normalised u (length new)) ≡ Ok size
  pub bytes : take size (written (normalised t (length old)) old) ≡ take size (written (normalised u (length new)) new)
