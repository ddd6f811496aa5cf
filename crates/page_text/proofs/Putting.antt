-- Lines put one behind another, and the page. Assumes nothing.
use Prim.Native.Nat.{ℕ, ◌-◌}
use mathlib.Core.Path.{◌≡◌, refl, sym, ap, ap₂, subst, ◌∙◌}
use mathlib.Core.List.{List, [], ◌∷◌, ◌++◌, map}
use lib.ListN.{length}
use lib.Seq.{append_snoc}
use Rattle.text_numbers.specs.Inner.{Put}
use Rattle.text_numbers.specs.Print.{print_number}
use Rattle.text_numbers.proofs.Writing.{put_then}
use Rattle.text_lines.specs.Lines.{unlines}
use Rattle.text_lines.proofs.Lines.{unlines_append}
use Rattle.list_pairs.specs.List.{Pair, list_of, pair_bytes, each_pair, counts_of}
use Rattle.page_columns.specs.Columns.{right}
use Rattle.page_lines.specs.PairLines.{pair_text}
use Rattle.page_text.specs.Types.{Event, Counts}
use Rattle.page_text.specs.Page.{said_of, pair_lines, count_text, count_texts, page_lines, page_text}
use Rattle.page_text.specs.Inner.{line_of_pair, pairs_text}

-- a line and its LF, before other lines and as the last
pub line_then : (l : List ℕ) (ls : List (List ℕ)) {at m n : ℕ} {xs ys zs : List ℕ} → Put (l ++ (10 ∷ [])) at xs m ys → Put (unlines ls) m ys n zs → Put (unlines (l ∷ ls)) at xs n zs
unfolding unlines
line_then l ls {at} {n = n} {xs} {zs = zs} p q = subst (λ (t : List ℕ). Put t at xs n zs) (append_snoc l 10 (unlines ls)) (put_then p q)

pub last_line : (l : List ℕ) {at n : ℕ} {xs ys : List ℕ} → Put (l ++ (10 ∷ [])) at xs n ys → Put (unlines (l ∷ [])) at xs n ys
unfolding unlines
last_line l p = p

-- a name and its number
pub count_put : (name : List ℕ) (v : ℕ) {w at m n : ℕ} {xs ys zs : List ℕ} → w ≡ 60 - length name → Put name at xs m ys → Put (right w (print_number v)) m ys n zs → Put (count_text name v) at xs n zs
unfolding count_text
count_put name v e p q = rw (← e) (put_then p q)

-- the lines of a list's pairs, from its bytes
pairs_lines : (es : List Event) (ps : List Pair) → each_pair (line_of_pair es) (pair_bytes ps) ≡ unlines (map pair_text (map (said_of es) ps))
unfolding unlines
pairs_lines es [] = refl
pairs_lines es (p ∷ ps) =
    append_snoc (pair_text (said_of es p)) 10 (each_pair (line_of_pair es) (pair_bytes ps))
    ∙ ap (λ (r : List ℕ). pair_text (said_of es p) ++ (10 ∷ r)) (pairs_lines es ps)

-- the lines of the pairs and those of the counts are the page
pub page_put : (delay : ℕ) (es : List Event) (list : List ℕ) (c : Counts) {at n : ℕ} {xs ys zs : List ℕ} → list ≡ pair_bytes (list_of delay es) → c ≡ counts_of delay es
    → Put (pairs_text es list) 0 xs at ys → Put (unlines (count_texts c)) at ys n zs → Put (page_text delay es) 0 xs n zs
unfolding page_text page_lines pair_lines pairs_text
page_put delay es list c {n = n} {xs} {zs = zs} e f p q =
    let g : each_pair (line_of_pair es) list ++ unlines (count_texts c) ≡ page_text delay es =
    ap₂ (λ (l : List ℕ) (d : Counts). each_pair (line_of_pair es) l ++ unlines (count_texts d)) e f
    ∙ ap (λ (t : List ℕ). t ++ unlines (count_texts (counts_of delay es))) (pairs_lines es (list_of delay es))
    ∙ sym (unlines_append (map pair_text (map (said_of es) (list_of delay es))) (count_texts (counts_of delay es))) in
    subst (λ (t : List ℕ). Put t 0 xs n zs) g (put_then p q)
