-- Inner: what an event is to direct precedence, as far as a quick look tells.
use Rattle.std.specs.Prelude.{Bool, false, ◌&&◌, ◌||◌, ℕ, ◌+◌, eqb, ltb}
use Rattle.flow_table.specs.Switches.{switch_of}
use Rattle.trace_events.specs.Types.{Operation, Head, Event, Side}
use Rattle.trace_events.specs.Events.{is_barrier, barrier_orders, is_handled}
use Rattle.trace_events.specs.Precedence.{line_step}
use Rattle.trace_events.specs.Clocks.{time_step}

-- a, of an earlier line, directly precedes b: by a token, a barrier or the clocks
unfoldable pub precedes : ℕ → Event → Event → Bool
precedes delay a b = line_step a b || time_step delay a b

abbrev pub no_side : Side
no_side = record { takes = false; puts = false; switch = 0; ordered = false; barrier = false; handled = false; from = 0; to = 0 }

unfoldable pub side_of : Head → Operation → Side
side_of h o = record {
  takes = ltb 0 h.ins.count;
  puts = ltb 0 h.outs.count;
  switch = switch_of o;
  ordered = barrier_orders o;
  barrier = is_barrier o;
  handled = is_handled o;
  from = h.from;
  to = h.to;
}

-- the time rule, by both sides: who is handled and not ordered by barriers is a `pkt`
unfoldable pub side_later : ℕ → Side → Side → Bool
side_later delay a b = a.handled && b.handled && (a.ordered || b.ordered) && ltb (a.to + delay) b.from

-- a barrier step or the time rule, by both sides
unfoldable pub side_step : ℕ → Side → Side → Bool
side_step delay a b = (eqb a.switch b.switch && a.ordered && b.ordered && (a.barrier || b.barrier)) || side_later delay a b

-- a token may pass from a to b
unfoldable pub may_pass_to : Side → Side → Bool
may_pass_to a b = a.puts && b.takes
