-- The page of an accepted trace is as document 01 has it (`page_of`), of at most 1,991,284 bytes (`page_room`), and one page is one list
-- (`same_page_iff`). Assumes nothing.
use Prim.Native.Nat.{ℕ, ◌+◌, ◌*◌, ◌≤◌}
use native.Mathlib.Nat.{add-zero}
use native.Mathlib.Omega.{arith}
use mathlib.Core.Path.{◌≡◌, refl, ap, ap₂, ◌∙◌}
use mathlib.Core.Logic.{◌↔◌}
use mathlib.Core.Bool.{true}
use mathlib.Core.List.{List, []}
use Rattle.std.specs.Prelude.{Some, Ok}
use lib.ListN.{length, get_or}
use Rattle.std.specs.List.{slice_get}
use borrow.Author.Tests.{eqb-true}
use Rattle.basics.specs.Text.{bytes}
use Rattle.basics.proofs.Booleans.{and_left, and_right}
use Rattle.call_answers.specs.Inner.{Small}
use Rattle.flow_table.specs.Switches.{switch_of, uses_table}
use Rattle.refusals.proofs.Checks.{short_passed}
use Rattle.text_lines.specs.Lines.{unlines}
use Rattle.text_lines.proofs.Lines.{lines_plain}
use Rattle.trace_events.specs.Events.{event_at}
use Rattle.trace_text.specs.TraceText.{read_trace}
use Rattle.trace_text.proofs.Accepted.{trace_accepted_iff, events_in_range}
use Rattle.list_verdicts.specs.Kinds.{Kind, paired, listed}
use Rattle.list_pairs.specs.List.{Pair, list_of, count, counts_of}
use Rattle.list_pairs.specs.Inner.{count_of}
use Rattle.list_pairs.proofs.PairLaws.{small_of}
use Rattle.list_pairs.proofs.Sizes.{count_most}
use Rattle.list_pairs.proofs.Theorems.{list_members}
use Rattle.page_lines.specs.PairLines.{PairColumns}
use Rattle.page_lines.proofs.PairColumns.{pair_columns}
use Rattle.page_text.specs.Page.{said_of, pair_lines, count_text, CountColumns, count_texts, page_lines, page_text}
use Rattle.page_text.proofs.Ranges.{AllInRange, lines_range}
use Rattle.page_text.proofs.Sizes.{lines_wide, wide_at, lines_many, pairs_many, page_length}
use Rattle.page_text.proofs.Lines.{page_lines_lem}
use Rattle.page_text.proofs.CountColumns.{count_columns}
use Rattle.page_text.proofs.Unique.{page_unique, list_said}
use Rattle.page_call.specs.Paged.{paged}
use Rattle.page_meaning.specs.Types.{Event, Refusal}
use Rattle.page_meaning.specs.PageOf.{line_on, PageOf, SamePage}
use Rattle.page_meaning.proofs.Lines.{at_member, pair_at, range_at, count_at, none_there}

-- ---- the events of an accepted trace
module _ (delay : ℕ) (s : List ℕ) (es : List Event) (h : read_trace delay s ≡ Ok es) where
  few : length es ≤ 256
  few = ((trace_accepted_iff delay s es).0 h).few

  range : AllInRange (pair_lines delay es)
  range = lines_range es (events_in_range delay s es h) delay few

  small : Small (counts_of delay es)
  unfolding counts_of
  small = small_of (counts_of delay es) all
    where
      all : (k : Kind) → count_of k (counts_of delay es) ≤ 65535
      all Kind.pairs = omega (arith, count_most delay Kind.pairs es few)
      all Kind.ordered = omega (arith, count_most delay Kind.ordered es few)
      all Kind.commuting = omega (arith, count_most delay Kind.commuting es few)
      all Kind.listed = omega (arith, count_most delay Kind.listed es few)

  listed_are : count delay listed es ≡ (counts_of delay es).listed
  unfolding counts_of
  listed_are = refl

  many : length (pair_lines delay es) ≡ (counts_of delay es).listed
  many = pairs_many delay es ∙ listed_are

  -- a line of the page, and what it is
  on_line_lem : (k : ℕ) → line_on (page_text delay es) k ≡ get_or (page_lines (pair_lines delay es) (counts_of delay es)) k []
  on_line_lem k = ap (λ (ls : List (List ℕ)). get_or ls k []) (page_lines_lem delay es)

  on_pair : (k : ℕ) (p : Pair) → slice_get (list_of delay es) k ≡ Some p → PairColumns (said_of es p) (line_on (page_text delay es) k)
  unfolding page_lines pair_lines
  on_pair k p e = rw (on_line_lem k, pair_at es (list_of delay es) (count_texts (counts_of delay es)) k p e) (pair_columns (said_of es p) (range_at es (list_of delay es) range k p e))

  on_count : (i : ℕ) (name : List ℕ) (n : ℕ) → get_or (count_texts (counts_of delay es)) i [] ≡ count_text name n → length name ≤ 40 → CountColumns name n (line_on (page_text delay es) ((counts_of delay es).listed + i))
  on_count i name n e l = rw (on_line_lem ((counts_of delay es).listed + i), count_at (pair_lines delay es) (counts_of delay es) (counts_of delay es).listed many i, e) (count_columns name n l)

  -- both events of a listed pair are of one switch
  one_switch : (k : ℕ) (p : Pair) → slice_get (list_of delay es) k ≡ Some p → switch_of (event_at es p.lower).operation ≡ switch_of (event_at es p.higher).operation
  unfolding paired
  one_switch k p e =
      let o = (event_at es p.lower).operation in
      let q = (event_at es p.higher).operation in
      let kind = ((list_members delay es p.lower p.higher).0 (at_member (list_of delay es) k p e)).2 in
      let pair : paired o q ≡ true = and_left (paired o q) _ kind in
      eqb-true (switch_of o) (switch_of q) (and_right (uses_table q) _ (and_right (uses_table o) _ pair))

  pub page_of : PageOf delay es (page_text delay es)
  unfolding page_text
  page_of = record {
    many = ap length (page_lines_lem delay es) ∙ lines_many (pair_lines delay es) (counts_of delay es) ∙ ap (λ (n : ℕ). n + 4) many;
    ended = ap unlines (page_lines_lem delay es);
    wide = λ k l. ap length (on_line_lem k) ∙ wide_at (page_lines (pair_lines delay es) (counts_of delay es)) (lines_wide (pair_lines delay es) (counts_of delay es) range) k (omega (arith, ap length (page_lines_lem delay es)));
    plain = λ k. none_there (line_on (page_text delay es) k) (lines_plain (page_text delay es) k);
    size = page_length delay es range ∙ ap (λ (n : ℕ). 61 * (n + 4)) listed_are;
    pairs = on_pair;
    switches = one_switch;
    count_pairs = rw add-zero at (on_count 0 (bytes "pairs") (counts_of delay es).pairs refl (omega arith));
    count_ordered = on_count 1 (bytes "ordered") (counts_of delay es).ordered refl (omega arith);
    count_commuting = on_count 2 (bytes "commuting") (counts_of delay es).commuting refl (omega arith);
    count_listed = on_count 3 (bytes "listed") (counts_of delay es).listed refl (omega arith);
  }

  -- ---- a buffer of that length is never too short
  pub page_room : length (page_text delay es) ≤ 1991284
  page_room = omega (arith, page_length delay es range, count_most delay listed es few)

  pub page_fits : (room : ℕ) → 1991284 ≤ room → paged delay s room ≡ Ok (page_text delay es)
  unfolding paged
  page_fits room l = rw (h, short_passed room (page_text delay es) Refusal.PageShort (omega (arith, page_room))) refl

-- ---- one page is one list
module _ (d e : ℕ) (s t : List ℕ) (es fs : List Event) (h : read_trace d s ≡ Ok es) (k : read_trace e t ≡ Ok fs) where
  pub same_page_iff : (page_text d es ≡ page_text e fs) ↔ SamePage d es e fs
  unfolding page_text
  same_page_iff = (
    λ p. let (q, c) = page_unique d e es fs (range d s es h) (range e t fs k) (small d s es h) (small e t fs k) p in record { list = list_said d e es fs q; said = q; counts = c },
    λ m. ap unlines (ap₂ page_lines m.said m.counts),
  )
