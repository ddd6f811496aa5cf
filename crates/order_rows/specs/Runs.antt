-- Document 01, "What an order of events does": what an event of a trace does, and its answer.
use Rattle.std.specs.Prelude.{List, ℕ, length, Option, None, Some}
use Rattle.trace_events.specs.Events.{event_at}
use Rattle.order_meaning.specs.Orders.{from}
use Rattle.order_rows.specs.Types.{Operation, Answer, Event}

-- what event i does
abbrev pub operation_at : List Event → ℕ → Operation
operation_at es i = (event_at es i).operation

-- the answer, or a where there is none
abbrev pub given_or : Answer → Option Answer → Answer
given_or a None = a
given_or a (Some b) = b

-- the recorded order of a trace's events: 0, 1, 2 and so on
abbrev pub recorded : List Event → List ℕ
recorded es = from 0 (length es)
