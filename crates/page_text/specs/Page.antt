-- Document 01, "The page": the list on paper, 60 columns wide.
use Rattle.std.specs.Prelude.{List, [], ◌∷◌, ◌++◌, map, ◌≡◌, ℕ, suc, ◌-◌, length}
use Rattle.basics.specs.Text.{bytes}
use Rattle.text_numbers.specs.Print.{print_number}
use Rattle.text_lines.specs.Lines.{unlines}
use Rattle.trace_events.specs.Events.{event_at}
use Rattle.list_pairs.specs.List.{Pair, list_of, counts_of}
use Rattle.page_columns.specs.Columns.{right, columns, StandsRight}
use Rattle.page_lines.specs.PairLines.{pair_line_of, pair_text}
use Rattle.page_text.specs.Types.{Event, Counts, PairLine}

-- what the page says of a pair of a trace's events
abbrev pub said_of : List Event → Pair → PairLine
said_of es p = pair_line_of p.lower (event_at es p.lower).operation p.higher (event_at es p.higher).operation

-- and of the listed pairs, in the list's order
unfoldable pub pair_lines : ℕ → List Event → List PairLine
pair_lines delay es = map (said_of es) (list_of delay es)

-- a count: name at column 1, number right-justified to column 60
unfoldable pub count_text : List ℕ → ℕ → List ℕ
count_text name n = name ++ right (60 - length name) (print_number n)

-- the four counts
abbrev pub count_texts : Counts → List (List ℕ)
count_texts c =
    count_text (bytes "pairs") c.pairs
    ∷ count_text (bytes "ordered") c.ordered
    ∷ count_text (bytes "commuting") c.commuting
    ∷ count_text (bytes "listed") c.listed
    ∷ []

-- the lines of a page: one for each listed pair, then the four counts
unfoldable pub page_lines : List PairLine → Counts → List (List ℕ)
page_lines ls c = map pair_text ls ++ count_texts c

-- the page of a trace's events, each line ended by LF
unfoldable pub page_text : ℕ → List Event → List ℕ
page_text delay es = unlines (page_lines (pair_lines delay es) (counts_of delay es))

-- the columns of a count, as document 01 has them (`count_columns`, proofs/CountColumns.antt: its line is so)
pub record CountColumns (name : List ℕ) (n : ℕ) (line : List ℕ) : Type 0 where
  pub first : columns 1 (length name) line ≡ name
  pub number : StandsRight (suc (length name)) 60 (print_number n) line
