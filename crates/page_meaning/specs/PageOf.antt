-- Document 01, "The page", in its words: what stands on the page of an accepted trace, and when two pages are the same.
use Rattle.std.specs.Prelude.{◌≡◌, false, List, [], ℕ, ◌+◌, ◌*◌, ◌<◌, length, get_or, Some}
use Rattle.std.specs.List.{slice_get}
use Rattle.basics.specs.Text.{bytes}
use Rattle.basics.specs.Searches.{has}
use Rattle.text_lines.specs.Lines.{lines, unlines}
use Rattle.flow_table.specs.Switches.{switch_of}
use Rattle.trace_events.specs.Events.{event_at}
use Rattle.list_pairs.specs.List.{Pair, list_of, counts_of}
use Rattle.page_lines.specs.PairLines.{PairColumns}
use Rattle.page_text.specs.Page.{said_of, pair_lines, CountColumns}
use Rattle.page_meaning.specs.Types.{Event}

-- line k of a page, without its LF
abbrev pub line_on : List ℕ → ℕ → List ℕ
line_on page k = get_or (lines page) k []

pub record PageOf (delay : ℕ) (es : List Event) (page : List ℕ) : Type 0 where
  -- a line for each listed pair, and four; each ended by LF
  pub many : length (lines page) ≡ (counts_of delay es).listed + 4
  pub ended : unlines (lines page) ≡ page
  -- each of exactly 60 bytes before its LF, with no other LF
  pub wide : (k : ℕ) → k < length (lines page) → length (line_on page k) ≡ 60
  pub plain : (k : ℕ) → has 10 (line_on page k) ≡ false
  pub size : length page ≡ 61 * ((counts_of delay es).listed + 4)
  -- the pairs in the list's order, each in its columns; both events are of the switch that stands there
  pub pairs : (k : ℕ) (p : Pair) → slice_get (list_of delay es) k ≡ Some p → PairColumns (said_of es p) (line_on page k)
  pub switches : (k : ℕ) (p : Pair) → slice_get (list_of delay es) k ≡ Some p → switch_of (event_at es p.lower).operation ≡ switch_of (event_at es p.higher).operation
  -- the four counts
  pub count_pairs : CountColumns (bytes "pairs") (counts_of delay es).pairs (line_on page (counts_of delay es).listed)
  pub count_ordered : CountColumns (bytes "ordered") (counts_of delay es).ordered (line_on page ((counts_of delay es).listed + 1))
  pub count_commuting : CountColumns (bytes "commuting") (counts_of delay es).commuting (line_on page ((counts_of delay es).listed + 2))
  pub count_listed : CountColumns (bytes "listed") (counts_of delay es).listed (line_on page ((counts_of delay es).listed + 3))

-- the same list, with the same switches, words and priorities, and the same counts: of two traces, each under a delay
pub record SamePage (d : ℕ) (es : List Event) (e : ℕ) (fs : List Event) : Type 0 where
  pub list : list_of d es ≡ list_of e fs
  pub said : pair_lines d es ≡ pair_lines e fs
  pub counts : counts_of d es ≡ counts_of e fs
