-- The invariant: the events so far and those of the lines that are left are those of the text.
use Rattle.std.proofs.Common.{◌≡◌, length}
use Rattle.text_lines.specs.Lines.{lines}
use Rattle.text_reader.proofs.Each.{Rest}
use Rattle.trace_events.specs.Events.{events_of}
use Rattle.trace_line.specs.EventLine.{read_event}
use Rattle.trace_text.proofs.text.read_lines.Given as goal

abbrev pub invariant-loop-line : goal.invariant-loop-line
invariant-loop-line l =
    (l.trace.len ≡ length l.yielded) × (length l.trace.events ≡ 256) × Rest read_event (lines l.text) (events_of l.trace) (length l.yielded)
