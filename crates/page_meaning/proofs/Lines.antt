-- Which line of a page is whose. Assumes nothing.
use Prim.Native.Nat.{ℕ, zero, suc, ◌+◌}
use native.Mathlib.Omega.{arith}
use mathlib.Core.Path.{◌≡◌, refl, sym, ap, ◌∙◌}
use mathlib.Core.Bool.{Bool, true, false, cond, ◌||◌}
use mathlib.Core.List.{List, [], ◌∷◌, ◌++◌, map, Memᴰ}
use Rattle.std.specs.Prelude.{Some}
use Rattle.std.proofs.lemmas.Option.{same_Some}
use lib.Dec.{eqb}
use lib.ListN.{length, get_or, length-map}
use Rattle.std.specs.List.{slice_get}
use lib.Seq.{get_or-append-add}
use borrow.Author.Tests.{ne_eqb, eqb-false}
use Rattle.basics.specs.Searches.{has}
use Rattle.text_lines.specs.Inner.{newlines}
use Rattle.text_numbers.proofs.Readers.{nothing}
use Rattle.list_pairs.specs.List.{Pair}
use Rattle.page_lines.specs.PairLines.{pair_text}
use Rattle.page_lines.specs.Inner.{LineInRange}
use Rattle.page_text.specs.Page.{said_of, count_texts, page_lines}
use Rattle.page_text.proofs.Ranges.{AllInRange}
use Rattle.page_meaning.specs.Types.{Event, Counts, PairLine}

-- the pair of number k, in its list
pub at_member : (ps : List Pair) (k : ℕ) (p : Pair) → slice_get ps k ≡ Some p → Memᴰ p ps
at_member [] k p e = nothing e
at_member (q ∷ ps) zero p e = Memᴰ.head (sym (same_Some q p e))
at_member (q ∷ ps) (suc k) p e = Memᴰ.tail (at_member ps k p e)

module _ (es : List Event) where
  pub pair_at : (ps : List Pair) (cs : List (List ℕ)) (k : ℕ) (p : Pair) → slice_get ps k ≡ Some p → get_or (map pair_text (map (said_of es) ps) ++ cs) k [] ≡ pair_text (said_of es p)
  pair_at [] cs k p e = nothing e
  pair_at (q ∷ ps) cs zero p e = ap (λ (r : Pair). pair_text (said_of es r)) (same_Some q p e)
  pair_at (q ∷ ps) cs (suc k) p e = pair_at ps cs k p e

  pub range_at : (ps : List Pair) → AllInRange (map (said_of es) ps) → (k : ℕ) (p : Pair) → slice_get ps k ≡ Some p → LineInRange (said_of es p)
  range_at [] h k p e = nothing e
  range_at (q ∷ ps) h zero p e = rw (← same_Some q p e) h.0
  range_at (q ∷ ps) h (suc k) p e = range_at ps h.1 k p e

pub count_at : (ls : List PairLine) (c : Counts) (n : ℕ) → length ls ≡ n → (i : ℕ) → get_or (page_lines ls c) (n + i) [] ≡ get_or (count_texts c) i []
unfolding page_lines
count_at ls c n e i =
    let f : n ≡ length (map pair_text ls) = sym e ∙ sym (length-map ls pair_text) in
    rw f (get_or-append-add (map pair_text ls) (count_texts c) i [])

-- no LF, counted or looked for
pub none_there : (l : List ℕ) → newlines l ≡ 0 → has 10 l ≡ false
unfolding newlines
none_there [] h = refl
none_there (b ∷ l) h = go (eqb b 10) refl h (none_there l)
  where
    go : (t : Bool) → eqb b 10 ≡ t → cond t (newlines l + 1) (newlines l) ≡ 0 → (newlines l ≡ 0 → has 10 l ≡ false) → (eqb 10 b || has 10 l) ≡ false
    go true q e ih = absurd (omega arith)
    go false q e ih = rw (ne_eqb 10 b (λ f. eqb-false b 10 q (sym f)), ih e)
