-- Texts and buffers.
use Rattle.std.specs.Prelude.{ℕ, List, [], ◌∷◌, ◌++◌, length, drop, replicate}
use Prim.Native.Char.{code}
use Prim.Native.String.{String, [] as empty, ◌∷◌ as ◌before◌}

-- a text as it stands in a definition, `bytes "ev="`: the codes of its characters
abbrev pub bytes : String → List ℕ
bytes empty = []
bytes (c before s) = code c ∷ bytes s

-- a buffer as it is made: so many zeros
unfoldable pub zeros : ℕ → List ℕ
zeros n = replicate n 0

-- a buffer with a text from its start; the bytes past it unchanged
abbrev pub starting_with : List ℕ → List ℕ → List ℕ
starting_with text old = text ++ drop (length text) old
