-- Document 01, "The list": n(n-1)/2 pairs for n table events of a switch, summed over switches.
use Rattle.std.specs.Prelude.{Bool, ◌&&◌, List, ℕ, ◌-◌, ◌*◌, ◌/◌, eqb}
use Rattle.flow_table.specs.Switches.{uses_table, switch_of}
use Rattle.trace_events.specs.Events.{event_at}
use Rattle.list_pairs.specs.Types.{Operation, Event}
use Rattle.basics.specs.Searches.{count_below}

-- an operation on the table of switch w
unfoldable pub on_table : ℕ → Operation → Bool
on_table w o = uses_table o && eqb (switch_of o) w

-- how many of the first n events use the table of switch w
unfoldable pub table_events : List Event → ℕ → ℕ → ℕ
table_events es n w = count_below (λ k. on_table w (event_at es k).operation) n

-- the pairs among n things
unfoldable pub choose : ℕ → ℕ
choose n = n * (n - 1) / 2
