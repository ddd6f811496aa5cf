-- One page is one list (`page_unique`): what it says of the pairs, and the counts. Assumes nothing.
use Prim.Native.Nat.{ℕ, ◌-◌, ◌≤◌}
use native.Mathlib.Omega.{arith}
use mathlib.Core.Path.{◌≡◌, refl, sym, ap, ◌∙◌}
use mathlib.Core.List.{List, [], ◌∷◌, ◌++◌, map}
use lib.ListN.{length, get_or, drop, length-append}
use lib.Seq.{drop-append_seam}
use Rattle.basics.specs.Text.{bytes}
use Rattle.text_numbers.specs.Print.{print_number}
use Rattle.text_lines.specs.Lines.{lines}
use Rattle.call_answers.specs.Inner.{Small}
use Rattle.list_pairs.specs.List.{Pair, list_of, counts_of}
use Rattle.page_columns.specs.Columns.{right}
use Rattle.page_lines.specs.PairLines.{mention_of, pair_line_of, pair_text}
use Rattle.page_lines.proofs.Unique.{number_unique, pair_unique}
use Rattle.page_text.specs.Types.{Event, Counts, PairLine}
use Rattle.page_text.specs.Page.{said_of, pair_lines, count_text, count_texts, page_lines, page_text}
use Rattle.page_text.proofs.Ranges.{AllInRange}
use Rattle.page_text.proofs.Lines.{page_lines_lem}

-- ---- the lines of the pairs, before as many other lines
same_pairs : (ls ms : List PairLine) → AllInRange ls → AllInRange ms → (cs ds : List (List ℕ)) → length cs ≡ length ds
    → map pair_text ls ++ cs ≡ map pair_text ms ++ ds → (ls ≡ ms) × (cs ≡ ds)
same_pairs [] [] h k cs ds n e = (refl, e)
same_pairs [] (m ∷ ms) h k cs ds n e = absurd (omega (arith, n, ap length e, length-append (map pair_text ms) ds))
same_pairs (l ∷ ls) [] h k cs ds n e = absurd (omega (arith, n, ap length e, length-append (map pair_text ls) cs))
same_pairs (l ∷ ls) (m ∷ ms) h k cs ds n e =
    let one = pair_unique l m h.0 k.0 (ap (λ (t : List (List ℕ)). get_or t 0 []) e) in
    let rest = same_pairs ls ms h.1 k.1 cs ds n (ap (λ (t : List (List ℕ)). drop 1 t) e) in
    (λ i. one i ∷ rest.0 i, rest.1)

-- ---- the counts
same_count : (name : List ℕ) (n m : ℕ) → n ≤ 65535 → m ≤ 65535 → count_text name n ≡ count_text name m → n ≡ m
unfolding count_text
same_count name n m h k e =
    let f : right (60 - length name) (print_number n) ≡ right (60 - length name) (print_number m) =
    sym (drop-append_seam name (right (60 - length name) (print_number n)))
    ∙ ap (drop (length name)) e
    ∙ drop-append_seam name (right (60 - length name) (print_number m)) in
    number_unique (60 - length name) n m h k f

same_counts : (c d : Counts) → Small c → Small d → count_texts c ≡ count_texts d → c ≡ d
same_counts c d h k e =
    let at : (i : ℕ) → get_or (count_texts c) i [] ≡ get_or (count_texts d) i [] = λ i. ap (λ (t : List (List ℕ)). get_or t i []) e in
    let p = same_count (bytes "pairs") c.pairs d.pairs h.pairs_small k.pairs_small (at 0) in
    let o = same_count (bytes "ordered") c.ordered d.ordered h.ordered_small k.ordered_small (at 1) in
    let m = same_count (bytes "commuting") c.commuting d.commuting h.commuting_small k.commuting_small (at 2) in
    let l = same_count (bytes "listed") c.listed d.listed h.listed_small k.listed_small (at 3) in
    λ i. record { pairs = p i; ordered = o i; commuting = m i; listed = l i }

-- ---- the page
module _ (d e : ℕ) (es fs : List Event) (h : AllInRange (pair_lines d es)) (k : AllInRange (pair_lines e fs)) (small : Small (counts_of d es)) (small' : Small (counts_of e fs)) where
  pub page_unique : page_text d es ≡ page_text e fs → (pair_lines d es ≡ pair_lines e fs) × (counts_of d es ≡ counts_of e fs)
  unfolding page_lines
  page_unique p =
      let (q, c) = same_pairs (pair_lines d es) (pair_lines e fs) h k (count_texts (counts_of d es)) (count_texts (counts_of e fs)) refl (sym (page_lines_lem d es) ∙ ap lines p ∙ page_lines_lem e fs) in
      (q, same_counts (counts_of d es) (counts_of e fs) small small' c)

-- ---- the list, by what the page says of its pairs
abbrev pair_in : PairLine → Pair
pair_in l = record { lower = l.lower.event; higher = l.higher.event }

pairs_back : (es : List Event) (ps : List Pair) → map pair_in (map (said_of es) ps) ≡ ps
unfolding pair_line_of mention_of
pairs_back es [] = refl
pairs_back es (p ∷ ps) = ap (λ (r : List Pair). p ∷ r) (pairs_back es ps)

pub list_said : (d e : ℕ) (es fs : List Event) → pair_lines d es ≡ pair_lines e fs → list_of d es ≡ list_of e fs
unfolding pair_lines
list_said d e es fs p = sym (pairs_back es (list_of d es)) ∙ ap (map pair_in) p ∙ pairs_back fs (list_of e fs)
