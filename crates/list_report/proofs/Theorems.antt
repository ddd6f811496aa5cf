-- What `racelist` prints of an accepted trace (`report_lists`) and of a refused one. Assumes nothing.
use Rattle.std.specs.Prelude.{Ok, Err}
use Prim.Native.Nat.{ℕ}
use mathlib.Core.Path.{◌≡◌, ap}
use mathlib.Core.List.{List, [], ◌++◌}
use Rattle.trace_text.specs.TraceText.{read_trace}
use Rattle.list_pairs.specs.List.{list_of, pair_bytes, counts_of, listing_of}
use Rattle.refusals_text.specs.Report.{refused_text}
use Rattle.list_report.specs.Types.{Event, Refusal}
use Rattle.list_report.specs.Report.{race_lines, counts_line, list_text, text_of, report_text}

-- of an accepted trace a race line for each pair of that list, in its order, and the counts line; of any other the refusal
pub report_lists : (delay : ℕ) (s : List ℕ) (es : List Event) → read_trace delay s ≡ Ok es → report_text delay s ≡ race_lines (pair_bytes (list_of delay es)) ++ counts_line (counts_of delay es)
unfolding report_text list_text listing_of
report_lists delay s es h = ap (text_of delay s) h

pub report_refuses : (delay : ℕ) (s : List ℕ) (r : Refusal) → read_trace delay s ≡ Err r → report_text delay s ≡ refused_text s [] r
unfolding report_text
report_refuses delay s r h = ap (text_of delay s) h
