-- Document 01, "Refusal table": the order of checks of a call that takes a trace and tables.
use Rattle.std.specs.Prelude.{List, ℕ, Ok}
use Rattle.refusals.specs.Checks.{Checked, ◌▹◌}
use Rattle.trace_text.specs.TraceText.{read_trace}
use Rattle.tables_text.specs.TableText.{read_tables}
use Rattle.inputs.specs.Types.{Event, Row}

-- the events and the rows, or the first refusal: 1 to 8, 54, 55; 11 to 16
unfoldable pub read_both : ℕ → List ℕ → List ℕ → Checked (List Event × List Row)
read_both delay trace tables =
    read_trace delay trace ▹ λ es.
    read_tables tables ▹ λ rs.
    Ok (es, rs)
