-- A loop over a reader of a text: its turns, and its end. Assumes nothing.
use Rattle.std.proofs.Common.{ℕ, ◌<◌, List, [], ◌≡◌, ◌∙◌, length, get_or, Option, Some, None, Bor}
use Rattle.std.proofs.lemmas.Iterator.Consumers.{YieldsList-from_first, YieldsList-turn, YieldsList-end}
use Rattle.std.proofs.lemmas.List.{get_or_default}
use Rattle.std.specs.Iterator.{Yields, YieldsFirstBy}
use Rattle.text_reader.specs.Types.{LineReader}
use Rattle.text_reader.specs.Left.{lines_left}

-- the step of the reader, as its `next` promises it
abbrev pub Step : LineReader → Option (Bor (List ℕ)) → LineReader → Type 0
Step = YieldsFirstBy (λ line. line.now) lines_left

module _ (s : LineReader) (ls : List (List ℕ)) (start : lines_left s ≡ ls) (xs : List (Bor (List ℕ))) (t : LineReader) (sofar : Yields Step s xs t) (r : Option (Bor (List ℕ))) (u : LineReader) where
  -- where a line comes, it is the next one: of the number of lines that came before it
  pub line_turn : (line : Bor (List ℕ)) → r ≡ Some line → Step t r u → (length xs < length ls) × (line.now ≡ get_or ls (length xs) [])
  line_turn line e step =
      let turn = YieldsList-turn (YieldsList-from_first _ lines_left ls start) xs t sofar r u line e step in
      (turn.0, turn.1 ∙ get_or_default ls (length xs) line.now [] turn.0)

  -- where none comes, all have come
  pub line_end : r ≡ None → Step t r u → length xs ≡ length ls
  line_end e step = (YieldsList-end (YieldsList-from_first _ lines_left ls start) xs t sofar r u e step).1
