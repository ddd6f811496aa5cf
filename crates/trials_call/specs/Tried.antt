-- Document 01, "Many orders" and "Refusal table": what the call that tries orders refuses or writes.
use Rattle.std.specs.Prelude.{List, ℕ, length, Ok}
use Rattle.refusals.specs.Checks.{Checked, ◌▹◌, refuse_if, refuse_short}
use Rattle.rows.specs.Rows.{tables_of}
use Rattle.trace_text.specs.TraceText.{read_trace}
use Rattle.tables_text.specs.TableText.{read_tables}
use Rattle.order_trials.specs.Trials.{uneven, order_bytes}
use Rattle.trials_call.specs.Types.{Refusal}

-- what is made of a trace's text, a table text, orders end to end and the length of the buffer, a line a check: 1 to 8; 11 to 16; 52; 53
unfoldable pub tried : ℕ → List ℕ → List ℕ → List ℕ → ℕ → Checked (List ℕ)
tried delay trace tables os room =
    read_trace delay trace ▹ λ es.
    read_tables tables ▹ λ rs.
    refuse_if (uneven (length es) (length os)) Refusal.OrdersUneven ▹ λ _.
    refuse_short room (order_bytes delay es (tables_of rs) os) Refusal.TrialsShort ▹ λ _.
    Ok (order_bytes delay es (tables_of rs) os)

-- what is returned: the number of orders, or the refusal
abbrev pub trials_answer : Checked (List ℕ) → Checked ℕ
trials_answer y = y ▹ λ bytes. Ok (length bytes)
