-- Document 01, "What an order of events does": a table for each switch, and what an event does to them.
use Rattle.std.specs.Prelude.{Bool, true, false, cond, ℕ, eqb, length}
use Rattle.basics.specs.Searches.{sum_below}
use Rattle.flow_table.specs.Types.{Operation, Answer}
use Rattle.flow_table.specs.FlowTable.{Table, Sorted, effect_of, after, answer}

-- a table for each switch, by the switch's number
abbrev pub Tables : Type 0
Tables = ℕ → Table

abbrev pub InOrder : Tables → Type 0
InOrder s = (w : ℕ) → Sorted (s w)

-- how many entries the switches 0 to n - 1 hold together; of all switches n is 16
unfoldable pub entries_held : ℕ → Tables → ℕ
entries_held n s = sum_below (λ w. length (s w)) n

abbrev pub switch_of : Operation → ℕ
switch_of Operation.Other = 0
switch_of (Operation.Barrier w) = w
switch_of (Operation.Message w) = w
switch_of (Operation.Table w o) = w

abbrev pub uses_table : Operation → Bool
uses_table Operation.Other = false
uses_table (Operation.Barrier w) = false
uses_table (Operation.Message w) = false
uses_table (Operation.Table w o) = true

-- an event does to its own switch's table what is said under Flow table; all other tables stay
unfoldable pub step_of : Operation → Tables → Tables
step_of o s = λ w. cond (eqb w (switch_of o)) (after (effect_of o) (s w)) (s w)

-- its answer
unfoldable pub answer_of : Operation → Tables → Answer
answer_of o s = answer (effect_of o) (s (switch_of o))
