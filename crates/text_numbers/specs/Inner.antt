-- Inner: what a writer leaves in a buffer.
use Rattle.std.specs.Prelude.{ℕ, ◌+◌, List, length, ◌≡◌}
use Rattle.std.proofs.lemmas.List.Edits.{sets}

-- the text w put at a place of the buffer xs gives ys, and the place after it; what lies past the buffer's end is dropped
pub record Put (w : List ℕ) (at : ℕ) (xs : List ℕ) (next : ℕ) (ys : List ℕ) : Type 0 where
  pub after : next ≡ at + length w
  pub bytes : ys ≡ sets xs at w
