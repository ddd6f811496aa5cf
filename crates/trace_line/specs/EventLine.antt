-- Document 01, "Trace text": a line is `key=value` items in fixed order, one space between: `ev`, `do`, the head, for all
-- but `oth` then `sw`, and the operation's own fields. That the reader reads the printed lines and no others is proved in
-- proofs/LineFormat.antt, `line_format`.
use Rattle.std.specs.Prelude.{Bool, cond, List, ◌++◌, ℕ, eqb, leb, length, Option, None, Some, Ok, Err}
use Rattle.basics.specs.Text.{bytes}
use Rattle.text_numbers.specs.Reading.{Reader, and_then, mapped, keyed, both}
use Rattle.text_numbers.specs.Number.{read_number}
use Rattle.text_numbers.specs.Print.{print_number}
use Rattle.trace_words.specs.Words.{word_of, print_word, read_word}
use Rattle.trace_head.specs.Heads.{print_head, read_head}
use Rattle.trace_operation.specs.Operations.{print_operation, read_operation, clear_operation}
use Rattle.refusals.specs.Checks.{Checked}
use Rattle.trace_line.specs.Types.{Refusal, Operation, Head, Event, Word}

-- ---- printing
-- what stands behind the word
unfoldable pub print_behind : Event → List ℕ
print_behind e = print_head e.head ++ print_operation e.operation

unfoldable pub print_event : Event → List ℕ
print_event e = (bytes " do=" ++ print_word (word_of e.operation)) ++ print_behind e

-- the line of event number n
unfoldable pub print_line : ℕ → Event → List ℕ
print_line n e = (bytes "ev=" ++ print_number n) ++ print_event e

-- ---- reading
-- what stands behind a word
unfoldable pub read_parts : Word → Reader (Head × Operation)
read_parts w = both read_head (read_operation w)

abbrev pub event_of : Head × Operation → Event
event_of (head, operation) = record { head = head; operation = operation }

unfoldable pub read_behind : Word → Reader Event
read_behind w = mapped event_of (read_parts w)

unfoldable pub read_items : Reader Event
read_items = and_then (keyed (bytes " do=") read_word) read_behind

unfoldable pub read_numbered : Reader (ℕ × Event)
read_numbered = both (keyed (bytes "ev=") (read_number 255)) read_items

-- the items end where the line does
abbrev pub at_end : List ℕ → Option ((ℕ × Event) × ℕ) → Option (ℕ × Event)
at_end l None = None
at_end l (Some r) = cond (eqb r.1 (length l)) (Some r.0) None

-- a whole line: its number and its event
unfoldable pub read_numbered_event : List ℕ → Option (ℕ × Event)
read_numbered_event l = at_end l (read_numbered l 0)

-- ---- refusals
abbrev pub clear_event : Event → Bool
clear_event e = clear_operation e.operation

-- the earliest millisecond is not above the latest
abbrev pub range_kept : Event → Bool
range_kept e = leb e.head.from e.head.to

-- on line k: 4 where the line is not read, 5 where the number is not k, 6 where an address bit stands past its prefix, 54 where `from` is above `to`
abbrev pub on_line : ℕ → Option (ℕ × Event) → Checked Event
on_line k None = Err (Refusal.TraceMalformed k)
on_line k (Some r) =
    cond (eqb r.0 k)
    (cond (clear_event r.1)
    (cond (range_kept r.1) (Ok r.1) (Err (Refusal.RangeReversed k)))
    (Err (Refusal.TraceAddressBit k)))
    (Err (Refusal.EventMisnumbered k))

unfoldable pub read_event : ℕ → List ℕ → Checked Event
read_event k l = on_line k (read_numbered_event l)
