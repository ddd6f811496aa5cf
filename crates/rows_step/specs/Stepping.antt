-- Document 01, "What an order of events does", on rows: what an event leaves and answers. That it is what is said under "Flow table"
-- of its own switch's table, and that all other tables stay, is proved in proofs/Steps.antt.
use Rattle.std.specs.Prelude.{not, cond, List, ℕ}
use Rattle.flow.specs.Entries.{same_key}
use Rattle.flow_table.specs.FlowTable.{entry, inside, clash, fitting, best, effect_of}
use Rattle.flow_table.specs.Switches.{switch_of}
use Rattle.rows.specs.Rows.{row, table_of, insert_row, remove_rows, assign_rows, any_row, on_switch}
use Rattle.rows_step.specs.Types.{Operation, Answer, Effect, Row}

-- the rows that an event leaves, by its switch w and what it does there
unfoldable pub effect_step : ℕ → Effect → List Row → List Row
effect_step w (Effect.Pkt p) rs = rs
effect_step w (Effect.Add k a) rs = insert_row (row w (entry k a)) rs
effect_step w (Effect.Addc k a) rs = cond (any_row (on_switch w (clash k)) rs) rs (insert_row (row w (entry k a)) rs)
effect_step w (Effect.Modn k a) rs =
    cond (any_row (on_switch w (inside k.pattern)) rs)
    (assign_rows (on_switch w (inside k.pattern)) a rs)
    (insert_row (row w (entry k a)) rs)
effect_step w (Effect.Dels k) rs = remove_rows (on_switch w (same_key k)) rs
effect_step w (Effect.Deln m) rs = remove_rows (on_switch w (inside m)) rs
effect_step w Effect.Idle rs = rs

-- `oth`, `bar` and `msg` change nothing
unfoldable pub step_rows : Operation → List Row → List Row
step_rows o rs = effect_step (switch_of o) (effect_of o) rs

-- its answer
unfoldable pub effect_answer : ℕ → Effect → List Row → Answer
effect_answer w (Effect.Pkt p) rs = best (fitting p (table_of w rs))
effect_answer w (Effect.Add k a) rs = Answer.Silent
effect_answer w (Effect.Addc k a) rs = Answer.Done (not (any_row (on_switch w (clash k)) rs))
effect_answer w (Effect.Modn k a) rs = Answer.Silent
effect_answer w (Effect.Dels k) rs = Answer.Silent
effect_answer w (Effect.Deln m) rs = Answer.Silent
effect_answer w Effect.Idle rs = Answer.Silent

unfoldable pub answer_rows : Operation → List Row → Answer
answer_rows o rs = effect_answer (switch_of o) (effect_of o) rs
