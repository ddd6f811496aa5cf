-- Inner: the lines of the pairs as the code goes through them, two bytes a pair.
use Rattle.std.specs.Prelude.{List, [], ◌∷◌, ◌++◌, ℕ}
use Rattle.list_pairs.specs.List.{each_pair}
use Rattle.page_lines.specs.PairLines.{pair_text}
use Rattle.page_text.specs.Types.{Event}
use Rattle.page_text.specs.Page.{said_of}

-- the line of a pair and its LF
abbrev pub line_of_pair : List Event → ℕ → ℕ → List ℕ
line_of_pair es i j = pair_text (said_of es (record { lower = i; higher = j })) ++ (10 ∷ [])

-- the lines of the pairs of a list
unfoldable pub pairs_text : List Event → List ℕ → List ℕ
pairs_text es list = each_pair (line_of_pair es) list
