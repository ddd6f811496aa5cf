-- Document 01, "Tables and replay" and "Refusal table": what a replay refuses or writes.
use Rattle.std.specs.Prelude.{List, ℕ, length, Ok}
use Rattle.refusals.specs.Checks.{Checked, ◌▹◌, refuse_short}
use Rattle.flow_table.specs.Switches.{Tables}
use Rattle.order_meaning.specs.Tables.{end_tables, answers}
use Rattle.rows.specs.Rows.{tables_of}
use Rattle.trace_text.specs.TraceText.{read_trace}
use Rattle.tables_text.specs.TableText.{read_tables}
use Rattle.tables_normal.specs.Normal.{tables_text}
use Rattle.order_check.specs.Schedule.{check_order}
use Rattle.order_rows.specs.Runs.{operation_at, given_or}
use Rattle.replay_answers.specs.Answers.{answers_text}
use Rattle.replay_texts.specs.Writing.{Replayed}
use Rattle.replay_call.specs.Types.{Refusal, Answer, Event}

-- the lines of the answers of an order of the events from these starting tables, by rising event
unfoldable pub answer_lines : List Event → List ℕ → Tables → List ℕ
answer_lines es o start = answers_text (λ i. given_or Answer.Silent (answers (operation_at es) o start i)) (length es)

-- what is written of that order: the normal text of its end tables, and the lines of its answers
abbrev pub texts_of : List Event → List ℕ → Tables → Replayed
texts_of es o start = record { tables = tables_text (end_tables (operation_at es) o start); answers = answer_lines es o start }

-- what replay makes of a trace's text, a table text, an order and the lengths of its two buffers, a line a check:
-- 1 to 8, 54, 55; 11 to 16; 21, 22; 32; 33
unfoldable pub replayed : ℕ → List ℕ → List ℕ → List ℕ → ℕ → ℕ → Checked Replayed
replayed delay trace tables o room room' =
    read_trace delay trace ▹ λ es.
    read_tables tables ▹ λ rs.
    check_order delay es o ▹ λ _.
    refuse_short room (texts_of es o (tables_of rs)).tables Refusal.TablesShort ▹ λ _.
    refuse_short room' (texts_of es o (tables_of rs)).answers Refusal.AnswersShort ▹ λ _.
    Ok (texts_of es o (tables_of rs))
