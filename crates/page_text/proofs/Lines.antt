-- The lines of a page are those that it is made of (`page_lines_lem`): none has an LF in it. Assumes nothing.
use Prim.Native.Nat.{ℕ, zero, suc, ◌-◌}
use mathlib.Core.Path.{◌≡◌, refl, ◌∙◌}
use mathlib.Core.List.{List, [], ◌∷◌, ◌++◌, map}
use lib.ListN.{length, get_or}
use Rattle.basics.specs.Text.{bytes}
use Rattle.text_numbers.specs.Print.{print_number}
use Rattle.text_lines.specs.Lines.{lines}
use Rattle.text_lines.specs.Inner.{newlines}
use Rattle.text_lines.proofs.Lines.{newlines_append, lines_unlines}
use Rattle.list_pairs.specs.List.{counts_of}
use Rattle.page_columns.specs.Columns.{right}
use Rattle.page_lines.specs.PairLines.{pair_text}
use Rattle.page_lines.proofs.Plain.{number_plain, right_plain, pair_plain}
use Rattle.page_text.specs.Types.{Event, Counts, PairLine}
use Rattle.page_text.specs.Page.{pair_lines, count_text, count_texts, page_lines, page_text}

count_plain : (name : List ℕ) (n : ℕ) → newlines name ≡ 0 → newlines (count_text name n) ≡ 0
unfolding count_text
count_plain name n h =
    newlines_append name (right (60 - length name) (print_number n))
    ∙ rw (h, right_plain (60 - length name) (print_number n) (number_plain n))

counts_plain : (c : Counts) (k : ℕ) → newlines (get_or (count_texts c) k []) ≡ 0
unfolding newlines
counts_plain c zero = count_plain (bytes "pairs") c.pairs refl
counts_plain c (suc zero) = count_plain (bytes "ordered") c.ordered refl
counts_plain c (suc (suc zero)) = count_plain (bytes "commuting") c.commuting refl
counts_plain c (suc (suc (suc zero))) = count_plain (bytes "listed") c.listed refl
counts_plain c (suc (suc (suc (suc k)))) = refl

all_plain : (ls : List PairLine) (ms : List (List ℕ)) → ((k : ℕ) → newlines (get_or ms k []) ≡ 0) → (k : ℕ) → newlines (get_or (map pair_text ls ++ ms) k []) ≡ 0
all_plain [] ms h k = h k
all_plain (l ∷ ls) ms h zero = pair_plain l
all_plain (l ∷ ls) ms h (suc k) = all_plain ls ms h k

pub page_lines_lem : (delay : ℕ) (es : List Event) → lines (page_text delay es) ≡ page_lines (pair_lines delay es) (counts_of delay es)
unfolding page_text page_lines
page_lines_lem delay es = lines_unlines (page_lines (pair_lines delay es) (counts_of delay es)) (all_plain (pair_lines delay es) (count_texts (counts_of delay es)) (counts_plain (counts_of delay es)))
