-- Document 01, "Program and worked lines": what the programs print of a refusal.
use Rattle.std.specs.Prelude.{List, [], ◌++◌, ℕ}
use Rattle.basics.specs.Text.{bytes}
use Rattle.text_numbers.specs.Print.{print_number}
use Rattle.refusals.specs.Refusals.{number_of, place_of, source_of, line_of}
use Rattle.refusals_text.specs.Types.{Refusal, Source}

-- a key and its number
unfoldable pub key_number : List ℕ → ℕ → List ℕ
key_number key n = key ++ print_number n

-- `refused=4 place=2`
unfoldable pub refusal_line : Refusal → List ℕ
refusal_line r =
    key_number (bytes "refused=") (number_of r)
    ++ key_number (bytes " place=") (place_of r)
    ++ bytes "\n"

-- the refused line, where there is one
abbrev pub line_text : Source → List ℕ → List ℕ
line_text Source.Neither line = []
line_text Source.Trace line = line ++ bytes "\n"
line_text Source.Tables line = line ++ bytes "\n"

-- number and place; then, where the place is a line, the refused line of the trace or of the tables
unfoldable pub refused_text : List ℕ → List ℕ → Refusal → List ℕ
refused_text trace tables r = refusal_line r ++ line_text (source_of r) (line_of trace tables r)
