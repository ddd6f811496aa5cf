-- What a line reader has still to read of its text.
use Rattle.std.specs.Prelude.{ℕ, List, drop}
use Rattle.text_lines.specs.Lines.{lines}
use Rattle.text_reader.specs.Types.{LineReader}

-- the lines from where the reader has come to
unfoldable pub lines_left : LineReader → List (List ℕ)
lines_left r = lines (drop r.at r.text.now)
