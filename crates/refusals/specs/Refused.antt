-- A refusal as numbers: document 01's number and place, and where the refused line stands in its text.
use Rattle.std.specs.Prelude.{List, ℕ, length}
use Rattle.text_lines.specs.Lines.{line_start}
use Rattle.refusals.specs.Types.{Refusal, Refused}
use Rattle.refusals.specs.Refusals.{number_of, place_of, source_of, text_in, line_of}

-- where the refused line starts in its text; 0 where the place is no line
unfoldable pub start_of : List ℕ → List ℕ → Refusal → ℕ
start_of trace tables r = line_start (text_in (source_of r) trace tables) (place_of r)

-- nothing is refused: number 0, which is no refusal's
abbrev pub nothing_refused : Refused
nothing_refused = record { number = 0; place = 0; start = 0; length = 0 }

-- a refusal of a call on a trace and tables
unfoldable pub refused_as : List ℕ → List ℕ → Refusal → Refused
refused_as trace tables r =
    record { number = number_of r; place = place_of r; start = start_of trace tables r; length = length (line_of trace tables r) }
