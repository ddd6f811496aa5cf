-- Document 01, "Refusal table": number, place and refused line of each refusal. Outputs are left as they were by all of them.
use Rattle.std.specs.Prelude.{List, [], ℕ, get_or}
use Rattle.text_lines.specs.Lines.{lines}
use Rattle.refusals.specs.Types.{Refusal, Source, Returned}

-- a row of the table: number, place, and the text of which the place is a line
abbrev pub refusal_row : ℕ → ℕ → Source → Returned
refusal_row number place source = record { number = number; place = place; source = source }

-- the place is 0, a line, a position in the order, or the bytes needed
abbrev pub returned : Refusal → Returned
-- trace over 65,535 bytes / last byte not LF / over 256 lines
returned Refusal.TraceTooLong = refusal_row 1 0 Source.Neither
returned Refusal.TraceUnended = refusal_row 2 0 Source.Neither
returned Refusal.TraceTooManyLines = refusal_row 3 0 Source.Neither
-- line malformed, value outside range
returned (Refusal.TraceMalformed line) = refusal_row 4 line Source.Trace
-- `ev` isn't the line number
returned (Refusal.EventMisnumbered line) = refusal_row 5 line Source.Trace
-- address bit past the prefix
returned (Refusal.TraceAddressBit line) = refusal_row 6 line Source.Trace
-- token in `out` of two lines
returned (Refusal.TokenTwice later) = refusal_row 7 later Source.Trace
-- `in` token whose `out` stands on this or a later line
returned (Refusal.TokenTooEarly line) = refusal_row 8 line Source.Trace
-- tables: as 1, 2, 3, 4, 6
returned Refusal.TablesTooLong = refusal_row 11 0 Source.Neither
returned Refusal.TablesUnended = refusal_row 12 0 Source.Neither
returned Refusal.TablesTooManyLines = refusal_row 13 0 Source.Neither
returned (Refusal.TablesMalformed line) = refusal_row 14 line Source.Tables
returned (Refusal.TablesAddressBit line) = refusal_row 15 line Source.Tables
-- tables: switch and key twice
returned (Refusal.KeyTwice later) = refusal_row 16 later Source.Tables
-- order's length wrong, or an event missing
returned Refusal.OrderIncomplete = refusal_row 21 0 Source.Neither
-- event put before one that happens before it
returned (Refusal.EventTooEarly position) = refusal_row 22 position Source.Neither
-- list, tables, answers buffer too short
returned (Refusal.ListShort needed) = refusal_row 31 needed Source.Neither
returned (Refusal.TablesShort needed) = refusal_row 32 needed Source.Neither
returned (Refusal.AnswersShort needed) = refusal_row 33 needed Source.Neither
-- page buffer too short
returned (Refusal.PageShort needed) = refusal_row 51 needed Source.Neither
-- the orders' length is no multiple of the event count
returned Refusal.OrdersUneven = refusal_row 52 0 Source.Neither
-- byte buffer too short, a byte an order
returned (Refusal.TrialsShort needed) = refusal_row 53 needed Source.Neither
-- `from` above `to`
returned (Refusal.RangeReversed line) = refusal_row 54 line Source.Trace
-- the time rule puts a later line before an earlier one
returned (Refusal.TimeBackward earlier) = refusal_row 55 earlier Source.Trace

abbrev pub number_of : Refusal → ℕ
number_of r = (returned r).number

abbrev pub place_of : Refusal → ℕ
place_of r = (returned r).place

abbrev pub source_of : Refusal → Source
source_of r = (returned r).source

-- the text that the refused line is a part of; empty where the place is no line
abbrev pub text_in : Source → List ℕ → List ℕ → List ℕ
text_in Source.Neither trace tables = []
text_in Source.Trace trace tables = trace
text_in Source.Tables trace tables = tables

-- the refused line, without its LF; empty where the place is no line
unfoldable pub line_of : List ℕ → List ℕ → Refusal → List ℕ
line_of trace tables r = get_or (lines (text_in (source_of r) trace tables)) (place_of r) []
