-- Document 01, "Program and worked lines": what `racelist` prints.
use Rattle.std.specs.Prelude.{List, [], ◌++◌, ℕ, Ok, Err}
use Rattle.basics.specs.Text.{bytes}
use Rattle.refusals_text.specs.Report.{key_number, refused_text}
use Rattle.refusals.specs.Checks.{Checked}
use Rattle.list_pairs.specs.List.{each_pair, Listing, listing_of}
use Rattle.trace_text.specs.TraceText.{read_trace}
use Rattle.list_report.specs.Types.{Event, Counts}

-- `race=3,4`
unfoldable pub race_line : ℕ → ℕ → List ℕ
race_line i j = key_number (bytes "race=") i ++ key_number (bytes ",") j ++ bytes "\n"

-- a line for each pair of the list
abbrev pub race_lines : List ℕ → List ℕ
race_lines list = each_pair race_line list

-- `pairs=2 ordered=1 commuting=0 listed=1`
unfoldable pub counts_line : Counts → List ℕ
counts_line c =
    key_number (bytes "pairs=") c.pairs
    ++ key_number (bytes " ordered=") c.ordered
    ++ key_number (bytes " commuting=") c.commuting
    ++ key_number (bytes " listed=") c.listed
    ++ bytes "\n"

-- of an accepted trace: a race line for each listed pair in the list's order, then the counts line
unfoldable pub list_text : Listing → List ℕ
list_text l = race_lines l.bytes ++ counts_line l.counts

-- of what a trace's text is read as
abbrev pub text_of : ℕ → List ℕ → Checked (List Event) → List ℕ
text_of delay trace (Err r) = refused_text trace [] r
text_of delay trace (Ok es) = list_text (listing_of delay es)

-- what `racelist` prints of a trace's text
unfoldable pub report_text : ℕ → List ℕ → List ℕ
report_text delay trace = text_of delay trace (read_trace delay trace)
