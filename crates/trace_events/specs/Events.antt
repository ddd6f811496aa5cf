-- Document 01, "Trace text": the events of a trace, their tokens, and the kinds of operations that barriers and clocks tell apart.
use Rattle.std.specs.Prelude.{Bool, true, false, not, List, [], ◌∷◌, ℕ, take, get_or, replicate}
use Rattle.trace_events.specs.Types.{Origin, TableOperation, Operation, Tokens, Head, Event, Trace}

-- the numbers of a token list: the first `count` of the four, all of them where it is more
unfoldable pub tokens_of : Tokens → List ℕ
tokens_of s = take s.count (s.t0 ∷ s.t1 ∷ s.t2 ∷ s.t3 ∷ [])

-- the events of a trace, in its order
unfoldable pub events_of : Trace → List Event
events_of t = take t.len t.events

-- no tokens, and what stands past the end: `oth` with none, at 0
abbrev pub no_tokens : Tokens
no_tokens = record { t0 = 0; t1 = 0; t2 = 0; t3 = 0; count = 0 }

abbrev pub no_head : Head
no_head = record { ins = no_tokens; outs = no_tokens; from = 0; to = 0 }

abbrev pub no_event : Event
no_event = record { head = no_head; operation = Operation.Other }

-- a trace before its first event
unfoldable pub no_trace : Trace
no_trace = record { events = replicate 256 no_event; len = 0 }

-- the event of line i
abbrev pub event_at : List Event → ℕ → Event
event_at es i = get_or es i no_event

abbrev pub is_barrier : Operation → Bool
is_barrier Operation.Other = false
is_barrier (Operation.Barrier w) = true
is_barrier (Operation.Message w) = false
is_barrier (Operation.Table w o) = false

abbrev pub is_sent_out : Origin → Bool
is_sent_out Origin.Received = false
is_sent_out Origin.SentOut = true

-- a message that uses the table: a write, or a packet sent out
abbrev pub is_message : TableOperation → Bool
is_message (TableOperation.Packet g p) = is_sent_out g
is_message (TableOperation.Add e) = true
is_message (TableOperation.AddChecked e) = true
is_message (TableOperation.ModifyStrict e) = true
is_message (TableOperation.Modify e) = true
is_message (TableOperation.DeleteStrict k) = true
is_message (TableOperation.Delete m) = true

-- among writes, `bar`, `msg` and `pout`: what a barrier of the same switch orders
abbrev pub barrier_orders : Operation → Bool
barrier_orders Operation.Other = false
barrier_orders (Operation.Barrier w) = true
barrier_orders (Operation.Message w) = true
barrier_orders (Operation.Table w o) = is_message o

-- handled by a switch: all but `oth`
abbrev pub is_handled : Operation → Bool
is_handled Operation.Other = false
is_handled (Operation.Barrier w) = true
is_handled (Operation.Message w) = true
is_handled (Operation.Table w o) = true

-- `pkt`: the table event that is no message
abbrev pub is_received : Operation → Bool
is_received Operation.Other = false
is_received (Operation.Barrier w) = false
is_received (Operation.Message w) = false
is_received (Operation.Table w o) = not (is_message o)
