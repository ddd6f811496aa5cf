-- A line is 60 bytes long, and a page 61 times (listed + 4). Assumes nothing.
use Prim.Native.Nat.{ℕ, zero, suc, ◌+◌, ◌-◌, ◌*◌, ◌≤◌, ◌<◌}
use native.Mathlib.Omega.{arith}
use mathlib.Core.Path.{◌≡◌, refl, ap, ◌∙◌}
use mathlib.Core.List.{List, [], ◌∷◌, ◌++◌, map}
use lib.ListN.{length, get_or, length-append, length-map}
use Rattle.basics.specs.Text.{bytes}
use Rattle.text_numbers.specs.Print.{print_number}
use Rattle.text_numbers.proofs.Print.{print_length}
use Rattle.text_lines.specs.Lines.{unlines}
use Rattle.list_verdicts.specs.Kinds.{listed}
use Rattle.list_pairs.specs.List.{list_of, count, counts_of}
use Rattle.page_columns.proofs.Columns.{right_length}
use Rattle.page_lines.specs.PairLines.{pair_text}
use Rattle.page_lines.proofs.PairColumns.{pair_length}
use Rattle.page_text.specs.Types.{Event, Counts, PairLine}
use Rattle.page_text.specs.Page.{said_of, pair_lines, count_text, count_texts, page_lines, page_text}
use Rattle.page_text.proofs.Ranges.{AllInRange}

-- each line is 60 bytes long
abbrev pub Wide : List (List ℕ) → Type 0
Wide [] = Unit {0}
Wide (l ∷ ls) = (length l ≡ 60) × Wide ls

wide_both : (ls ms : List (List ℕ)) → Wide ls → Wide ms → Wide (ls ++ ms)
wide_both [] ms h k = k
wide_both (l ∷ ls) ms h k = (h.0, wide_both ls ms h.1 k)

wide_pairs : (ls : List PairLine) → AllInRange ls → Wide (map pair_text ls)
wide_pairs [] h = tt
wide_pairs (l ∷ ls) h = (pair_length l h.0, wide_pairs ls h.1)

-- a number has at most 20 digits, so that 40 bytes are left for the name
count_length : (name : List ℕ) (n : ℕ) → length name ≤ 40 → length (count_text name n) ≡ 60
unfolding count_text
count_length name n h =
    let e : length (print_number n) ≤ 60 - length name = omega (arith, print_length n) in
    rw (length-append, right_length (60 - length name) (print_number n) e) (omega arith)

wide_counts : (c : Counts) → Wide (count_texts c)
wide_counts c = (
  count_length (bytes "pairs") c.pairs (omega arith),
  (
    count_length (bytes "ordered") c.ordered (omega arith),
    (
      count_length (bytes "commuting") c.commuting (omega arith),
      (count_length (bytes "listed") c.listed (omega arith), tt),
    ),
  ),
)

pub lines_wide : (ls : List PairLine) (c : Counts) → AllInRange ls → Wide (page_lines ls c)
unfolding page_lines
lines_wide ls c h = wide_both (map pair_text ls) (count_texts c) (wide_pairs ls h) (wide_counts c)

pub wide_at : (ls : List (List ℕ)) → Wide ls → (k : ℕ) → k < length ls → length (get_or ls k []) ≡ 60
wide_at [] h k l = absurd (omega arith)
wide_at (m ∷ ls) h zero l = h.0
wide_at (m ∷ ls) h (suc k) l = wide_at ls h.1 k (omega arith)

-- ---- lengths
unlines_length : (ls : List (List ℕ)) → Wide ls → length (unlines ls) ≡ 61 * length ls
unfolding unlines
unlines_length [] h = refl
unlines_length (l ∷ ls) h =
    let a = h.0 in
    let b = unlines_length ls h.1 in
    rw length-append (omega arith)

-- as many lines as listed pairs, and four
pub lines_many : (ls : List PairLine) (c : Counts) → length (page_lines ls c) ≡ length ls + 4
unfolding page_lines
lines_many ls c = rw (length-append, length-map ls pair_text) refl

pub pairs_many : (delay : ℕ) (es : List Event) → length (pair_lines delay es) ≡ count delay listed es
unfolding pair_lines
pairs_many delay es = length-map (list_of delay es) (said_of es)

-- the length of a page
pub page_length : (delay : ℕ) (es : List Event) → AllInRange (pair_lines delay es) → length (page_text delay es) ≡ 61 * (count delay listed es + 4)
unfolding page_text
page_length delay es h =
    unlines_length (page_lines (pair_lines delay es) (counts_of delay es)) (lines_wide (pair_lines delay es) (counts_of delay es) h)
    ∙ ap (λ (n : ℕ). 61 * n) (lines_many (pair_lines delay es) (counts_of delay es) ∙ ap (λ (n : ℕ). n + 4) (pairs_many delay es))
