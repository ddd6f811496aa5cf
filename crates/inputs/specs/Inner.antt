-- Inner: what the functions of this crate answer.
use Rattle.std.specs.Prelude.{List, Ok}
use Rattle.refusals.specs.Checks.{Checked, ◌▹◌}
use Rattle.trace_events.specs.Events.{events_of}
use Rattle.rows.specs.Rows.{rows_of}
use Rattle.inputs.specs.Types.{Event, Row, Inputs, BothRead}

-- the events and the rows that the code answers, or what is refused
abbrev pub as_inputs : Checked Inputs → Checked (List Event × List Row)
as_inputs r = r ▹ λ i. Ok (events_of i.trace, rows_of i.rows)

-- the events and the rows of both texts, or the first refusal
abbrev pub as_both : BothRead → Checked (List Event × List Row)
as_both b = b.trace ▹ λ t. b.rows ▹ λ rs. Ok (events_of t, rows_of rs)

-- both as the code has them, or the first refusal
abbrev pub inputs_of : BothRead → Checked Inputs
inputs_of b = b.trace ▹ λ t. b.rows ▹ λ rs. Ok (record { trace = t; rows = rs })
