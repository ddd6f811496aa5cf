-- Document 01, "The page": what the line of a listed pair says, and its columns.
use Rattle.std.specs.Prelude.{List, [], ◌∷◌, ℕ, Option, None, Some}
use Rattle.basics.specs.Text.{bytes}
use Rattle.text_numbers.specs.Print.{print_number}
use Rattle.flow_table.specs.Carried.{carried_of}
use Rattle.flow_table.specs.Switches.{switch_of}
use Rattle.trace_words.specs.Words.{word_of, word_text}
use Rattle.page_columns.specs.Columns.{blanks, right, left, beside, StandsRight, StandsLeft, Blank}
use Rattle.page_lines.specs.Types.{Operation, Carried, Mention, PairLine}

-- ---- what a line says
-- the priority of what an operation carries; a packet has none, nor has the match of `deln`
abbrev pub priority_in : Carried → Option ℕ
priority_in (Carried.Packet p) = None
priority_in (Carried.Entry e) = Some e.key.priority
priority_in (Carried.Key k) = Some k.priority
priority_in (Carried.Match m) = None

abbrev pub priority_of : Operation → Option ℕ
priority_of Operation.Other = None
priority_of (Operation.Barrier w) = None
priority_of (Operation.Message w) = None
priority_of (Operation.Table w o) = priority_in (carried_of o)

-- of an event: its number, its word, its priority
unfoldable pub mention_of : ℕ → Operation → Mention
mention_of i o = record { event = i; word = word_of o; priority = priority_of o }

-- of a pair: the switch, and both events, the lower first
unfoldable pub pair_line_of : ℕ → Operation → ℕ → Operation → PairLine
pair_line_of i o j p = record { switch = switch_of o; lower = mention_of i o; higher = mention_of j p }

-- ---- how it says it
-- a priority, or `-` where there is none
abbrev pub priority_text : Option ℕ → List ℕ
priority_text None = bytes "-"
priority_text (Some n) = print_number n

-- the fields of the line, from left to right
unfoldable pub pair_fields : PairLine → List (List ℕ)
pair_fields l =
    -- columns 1 to 3
    right 3 (print_number l.lower.event)
    ∷ blanks 1
    -- 5 to 7
    ∷ right 3 (print_number l.higher.event)
    ∷ blanks 1
    -- 9 to 10
    ∷ right 2 (print_number l.switch)
    ∷ blanks 1
    -- from 12
    ∷ left 5 (word_text l.lower.word)
    -- from 17
    ∷ left 5 (word_text l.higher.word)
    -- 22 to 26
    ∷ right 5 (priority_text l.lower.priority)
    ∷ blanks 1
    -- 28 to 32
    ∷ right 5 (priority_text l.higher.priority)
    -- to 60
    ∷ blanks 28
    ∷ []

-- the line, without its LF
unfoldable pub pair_text : PairLine → List ℕ
pair_text l = beside (pair_fields l)

-- ---- document 01's columns, one by one (`pair_columns`, proofs/PairColumns.antt: a line is so)
pub record PairColumns (l : PairLine) (line : List ℕ) : Type 0 where
  pub lower : StandsRight 1 3 (print_number l.lower.event) line
  pub blank4 : Blank 4 4 line
  pub higher : StandsRight 5 7 (print_number l.higher.event) line
  pub blank8 : Blank 8 8 line
  pub switch : StandsRight 9 10 (print_number l.switch) line
  pub blank11 : Blank 11 11 line
  pub lower_word : StandsLeft 12 16 (word_text l.lower.word) line
  pub higher_word : StandsLeft 17 21 (word_text l.higher.word) line
  pub lower_priority : StandsRight 22 26 (priority_text l.lower.priority) line
  pub blank27 : Blank 27 27 line
  pub higher_priority : StandsRight 28 32 (priority_text l.higher.priority) line
  pub blank33 : Blank 33 60 line
