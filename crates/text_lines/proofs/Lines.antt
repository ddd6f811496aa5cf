-- What the lines of a text are.
use Prim.Native.Nat.{ℕ, zero, suc, ◌+◌, ◌-◌, ◌<◌}
use mathlib.Core.Bool.{Bool, true, false, cond}
use mathlib.Core.List.{List, [], ◌∷◌, ◌++◌, append_assoc}
use mathlib.Core.Path.{◌≡◌, refl, sym, ◌∙◌, ap}
use native.Mathlib.Nat.{zero-add}
use native.Mathlib.Numerals.{add-one}
use native.Mathlib.Omega.{arith}
use borrow.Author.Tests.{eqb-true}
use lib.Dec.{eqb, eqb-suc-zero}
use lib.ListN.{length, get_or, take, drop}
use Rattle.basics.specs.Text.{bytes}
use Rattle.text_lines.specs.Lines.{in_first, lines, unlines, ends_with_lf}
use Rattle.text_lines.specs.Inner.{line_length, newlines}

-- ---- the first line and the others
first_other : (b : ℕ) (s : List ℕ) (k : ℕ) (ls : List (List ℕ)) → ls ≡ take k s ∷ lines (drop (k + 1) s)
    → in_first b ls ≡ take (k + 1) (b ∷ s) ∷ lines (drop (k + 1 + 1) (b ∷ s))
unfolding in_first
first_other b s k ls e = rw (e, add-one (k + 1), add-one k)

step : (b : ℕ) (s : List ℕ) (t : Bool) → eqb b 10 ≡ t → in_first b (lines s) ≡ take (line_length s + 1) (b ∷ s) ∷ lines (drop (line_length s + 1 + 1) (b ∷ s))
    → lines (b ∷ s) ≡ take (line_length (b ∷ s)) (b ∷ s) ∷ lines (drop (line_length (b ∷ s) + 1) (b ∷ s))
unfolding lines line_length
step b s true q e = rw q
step b s false q e = rw q e

alone : (b : ℕ) → in_first b (lines []) ≡ take (line_length [] + 1) (b ∷ []) ∷ lines (drop (line_length [] + 1 + 1) (b ∷ []))
unfolding in_first lines line_length
alone b = refl

pub lines_cons : (s : List ℕ) → 0 < length s → lines s ≡ take (line_length s) s ∷ lines (drop (line_length s + 1) s)
lines_cons [] h = absurd (omega arith)
lines_cons (b ∷ []) h = step b [] (eqb b 10) refl (alone b)
lines_cons (b ∷ c ∷ s) h =
    step b (c ∷ s) (eqb b 10) refl (first_other b (c ∷ s) (line_length (c ∷ s)) (lines (c ∷ s)) (lines_cons (c ∷ s) (omega arith)))

-- ---- no line has an LF in it
plain_step : (b : ℕ) (t : Bool) (ls : List (List ℕ)) → eqb b 10 ≡ t → ((k : ℕ) → newlines (get_or ls k []) ≡ 0) → (k : ℕ)
    → newlines (get_or (cond t ([] ∷ ls) (in_first b ls)) k []) ≡ 0
unfolding in_first newlines
plain_step b true ls q h zero = refl
plain_step b true ls q h (suc k) = h k
plain_step b false [] q h zero = rw q
plain_step b false [] q h (suc k) = refl
plain_step b false (l ∷ ls) q h zero = rw q (h 0)
plain_step b false (l ∷ ls) q h (suc k) = h (suc k)

pub lines_plain : (s : List ℕ) (k : ℕ) → newlines (get_or (lines s) k []) ≡ 0
unfolding lines newlines
lines_plain [] k = refl
lines_plain (b ∷ s) k = plain_step b (eqb b 10) (lines s) refl (lines_plain s) k

-- ---- the LFs of one text behind another
pub newlines_append : (a b : List ℕ) → newlines (a ++ b) ≡ newlines a + newlines b
unfolding newlines
newlines_append [] b = rw zero-add
newlines_append (x ∷ a) b = either (eqb x 10) (newlines_append a b)
  where
    either : (t : Bool) → newlines (a ++ b) ≡ newlines a + newlines b → cond t (newlines (a ++ b) + 1) (newlines (a ++ b)) ≡ cond t (newlines a + 1) (newlines a) + newlines b
    either true h = omega (arith, h)
    either false h = h

-- ---- a text that ends with LF is its lines, each followed by LF
ends_tail : (b c : ℕ) (s : List ℕ) → ends_with_lf (b ∷ c ∷ s) ≡ ends_with_lf (c ∷ s)
unfolding ends_with_lf
ends_tail b c s =
    let e : suc (suc (length s)) - 1 ≡ suc (suc (length s) - 1) = omega arith in
    rw (e, eqb-suc-zero (suc (length s)), eqb-suc-zero (length s))

-- what holds of the others, with a byte in front
module _ (b : ℕ) (s : List ℕ) (l : List ℕ) (ls : List (List ℕ)) (some : lines s ≡ l ∷ ls) where
  unlines_step : (t : Bool) → eqb b 10 ≡ t → unlines (lines s) ≡ s → unlines (lines (b ∷ s)) ≡ b ∷ s
  unfolding lines unlines in_first
  unlines_step true q h = rw (q, h, eqb-true b 10 q)
  unlines_step false q h = rw (q, some) (ap (λ (u : List ℕ). b ∷ u) (rw some at h))

  count_step : (t : Bool) → eqb b 10 ≡ t → length (lines s) ≡ newlines s → length (lines (b ∷ s)) ≡ newlines (b ∷ s)
  unfolding lines newlines in_first
  count_step true q h = rw (q, h) (omega arith)
  count_step false q h = rw (q, some) (rw some at h)

one_lf : (b : ℕ) → ends_with_lf (b ∷ []) ≡ true → b ≡ 10
unfolding ends_with_lf
one_lf b e = eqb-true b 10 e

lf_alone : (unlines (lines (bytes "\n")) ≡ bytes "\n") × (length (lines (bytes "\n")) ≡ newlines (bytes "\n"))
unfolding lines unlines newlines
lf_alone = (refl, refl)

pub unlines_lines : (s : List ℕ) → ends_with_lf s ≡ true → unlines (lines s) ≡ s
unfolding lines unlines
unlines_lines [] e = refl
unlines_lines (b ∷ []) e = rw (one_lf b e) lf_alone.0
unlines_lines (b ∷ c ∷ s) e = unlines_step b (c ∷ s) _ _ (lines_cons (c ∷ s) (omega arith)) (eqb b 10) refl (unlines_lines (c ∷ s) (sym (ends_tail b c s) ∙ e))

pub lines_count : (s : List ℕ) → ends_with_lf s ≡ true → length (lines s) ≡ newlines s
unfolding lines newlines
lines_count [] e = refl
lines_count (b ∷ []) e = rw (one_lf b e) lf_alone.1
lines_count (b ∷ c ∷ s) e = count_step b (c ∷ s) _ _ (lines_cons (c ∷ s) (omega arith)) (eqb b 10) refl (lines_count (c ∷ s) (sym (ends_tail b c s) ∙ e))

-- ---- lines without an LF are the lines of their text
plain_tail : (b : ℕ) (l : List ℕ) (t : Bool) → eqb b 10 ≡ t → newlines (b ∷ l) ≡ 0 → (eqb b 10 ≡ false) × (newlines l ≡ 0)
unfolding newlines
plain_tail b l true q h = absurd (omega (arith, rw q at h))
plain_tail b l false q h = (q, rw q at h)

first_line_lem : (l s : List ℕ) → newlines l ≡ 0 → lines (l ++ 10 ∷ s) ≡ l ∷ lines s
unfolding lines in_first
first_line_lem [] s h = refl
first_line_lem (b ∷ l) s h =
    let (q, p) = plain_tail b l (eqb b 10) refl h in
    rw (q, first_line_lem l s p)

pub lines_unlines : (ls : List (List ℕ)) → ((k : ℕ) → newlines (get_or ls k []) ≡ 0) → lines (unlines ls) ≡ ls
unfolding lines unlines
lines_unlines [] h = refl
lines_unlines (l ∷ ls) h = first_line_lem l (unlines ls) (h 0) ∙ ap (λ (m : List (List ℕ)). l ∷ m) (lines_unlines ls (λ k. h (suc k)))

-- and that text ends with LF
ends_append : (l : List ℕ) (b : ℕ) (s : List ℕ) → ends_with_lf (l ++ b ∷ s) ≡ ends_with_lf (b ∷ s)
ends_append [] b s = refl
ends_append (c ∷ []) b s = ends_tail c b s
ends_append (c ∷ d ∷ l) b s = ends_tail c d (l ++ b ∷ s) ∙ ends_append (d ∷ l) b s

ends_lf : (s : List ℕ) → ends_with_lf s ≡ true → ends_with_lf (10 ∷ s) ≡ true
unfolding ends_with_lf
ends_lf [] e = refl
ends_lf (b ∷ s) e = ends_tail 10 b s ∙ e

pub unlines_ends : (ls : List (List ℕ)) → ends_with_lf (unlines ls) ≡ true
unfolding unlines ends_with_lf
unlines_ends [] = refl
unlines_ends (l ∷ ls) = ends_append l 10 (unlines ls) ∙ ends_lf (unlines ls) (unlines_ends ls)

-- the text of lines one after the other
pub unlines_append : (ls ms : List (List ℕ)) → unlines (ls ++ ms) ≡ unlines ls ++ unlines ms
unfolding unlines
unlines_append [] ms = refl
unlines_append (l ∷ ls) ms = ap (λ (s : List ℕ). l ++ 10 ∷ s) (unlines_append ls ms) ∙ sym (append_assoc l (10 ∷ unlines ls) (unlines ms))
