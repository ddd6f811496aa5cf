-- Laws of texts in columns: how long a field is, which text stands in it, and where it stands in its line. Assumes nothing.
use Prim.Native.Nat.{ℕ, zero, suc, ◌+◌, ◌-◌, ◌≤◌, ◌<◌}
use native.Mathlib.Nat.{zero-add, suc-add, add-suc}
use native.Mathlib.Omega.{arith}
use mathlib.Core.Path.{◌≡◌, refl, sym, ap, ◌∙◌}
use mathlib.Core.List.{List, [], ◌∷◌, ◌++◌, append_assoc, append-nil}
use lib.ListN.{length, get_or, take, drop, set, replicate, length-append, length-replicate}
use lib.Seq.{sets, sets-eq, take_at, take-nil, drop-nil, drop-append-add, drop-append_seam}
use Rattle.page_columns.specs.Columns.{blanks, right, left, beside, columns}

-- ---- lengths
pub blanks_length : (n : ℕ) → length (blanks n) ≡ n
unfolding blanks
blanks_length n = length-replicate n 32

module _ (w : ℕ) (text : List ℕ) where
  -- a text that fits fills its field
  pub right_length : length text ≤ w → length (right w text) ≡ w
  unfolding right
  right_length h = rw (length-append, blanks_length (w - length text)) (omega arith)

  pub left_length : length text ≤ w → length (left w text) ≡ w
  unfolding left
  left_length h = rw (length-append, blanks_length (w - length text)) (omega arith)

  -- and one that doesn't is not cut
  pub right_most : length (right w text) ≤ w + length text
  unfolding right
  right_most = rw (length-append, blanks_length (w - length text)) (omega arith)

  pub left_most : length (left w text) ≤ w + length text
  unfolding left
  left_most = rw (length-append, blanks_length (w - length text)) (omega arith)

-- ---- which text it is
-- a text is there, and its first byte is no blank
abbrev pub Begins : List ℕ → Type 0
Begins text = get_or text 0 32 ≡ 32 → ⊥

same_behind : (k m : ℕ) (a b : List ℕ) → Begins a → Begins b → replicate k 32 ++ a ≡ replicate m 32 ++ b → a ≡ b
same_behind zero zero a b p q e = e
same_behind zero (suc m) a b p q e = absurd (p (ap (λ (t : List ℕ). get_or t 0 32) e))
same_behind (suc k) zero a b p q e = absurd (q (sym (ap (λ (t : List ℕ). get_or t 0 32) e)))
same_behind (suc k) (suc m) a b p q e = same_behind k m a b p q (ap (λ (t : List ℕ). drop 1 t) e)

-- right-justified, one text is one
pub right_unique : (w : ℕ) (a b : List ℕ) → Begins a → Begins b → right w a ≡ right w b → a ≡ b
unfolding right blanks
right_unique w a b p q e = same_behind (w - length a) (w - length b) a b p q e

-- ---- where a field stands
-- so many columns, and how many the fields have
abbrev pub sum : List ℕ → ℕ
sum [] = 0
sum (n ∷ ns) = n + sum ns

abbrev pub widths : List (List ℕ) → List ℕ
widths [] = []
widths (f ∷ fs) = length f ∷ widths fs

pub beside_length : (fs : List (List ℕ)) → length (beside fs) ≡ sum (widths fs)
beside_length [] = refl
beside_length (f ∷ fs) = rw (length-append, beside_length fs)

widths_length : (fs : List (List ℕ)) → length (widths fs) ≡ length fs
widths_length [] = refl
widths_length (f ∷ fs) = ap suc (widths_length fs)

pub beside_snoc : (fs : List (List ℕ)) (f : List ℕ) → beside (fs ++ (f ∷ [])) ≡ beside fs ++ f
beside_snoc [] f = append-nil f
beside_snoc (g ∷ fs) f = ap (λ (r : List ℕ). g ++ r) (beside_snoc fs f) ∙ sym (append_assoc g (beside fs) f)

module _ (n : ℕ) where
  field_at : (fs : List (List ℕ)) (k m : ℕ) → sum (take k (widths fs)) ≡ m → get_or (widths fs) k 0 ≡ n → take n (drop m (beside fs)) ≡ get_or fs k []
  field_at [] k m a b = rw (drop-nil m, take-nil n)
  field_at (f ∷ fs) zero m a b = rw (← a) (take_at f (beside fs) n b)
  field_at (f ∷ fs) (suc k) m a b =
      rw (← a, drop-append-add f (beside fs) (sum (take k (widths fs)))) (field_at fs k (sum (take k (widths fs))) refl b)

-- the field of number k stands in these columns, where those before it and it are so wide
pub in_columns : (from to : ℕ) (fs : List (List ℕ)) (ns : List ℕ) (k : ℕ) → widths fs ≡ ns → sum (take k ns) ≡ from - 1 → get_or ns k 0 ≡ suc to - from
    → columns from to (beside fs) ≡ get_or fs k []
unfolding columns
in_columns from to fs ns k w a b = field_at (suc to - from) fs k (from - 1) (rw w a) (rw w b)

-- ---- a field put over one of the same width
-- fields of these widths stand side by side in a buffer
pub record Fields (ns : List ℕ) (fs : List (List ℕ)) (ys : List ℕ) : Type 0 where
  pub stand : ys ≡ beside fs
  pub wide : widths fs ≡ ns

set_behind : (a b : List ℕ) (i x : ℕ) → set (a ++ b) (length a + i) x ≡ a ++ set b i x
set_behind [] b i x = rw zero-add
set_behind (y ∷ a) b i x = rw suc-add (ap (λ (r : List ℕ). y ∷ r) (set_behind a b i x))

sets_behind : (a b : List ℕ) (i : ℕ) (f : List ℕ) → sets (a ++ b) (length a + i) f ≡ a ++ sets b i f
sets_behind a b i [] = refl
sets_behind a b i (x ∷ f) = rw (set_behind a b i x, ← add-suc (length a) i) (sets_behind a (set b i x) (suc i) f)

module _ (f : List ℕ) where
  over : (fs : List (List ℕ)) (k : ℕ) → k < length fs → length f ≡ get_or (widths fs) k 0 → sets (beside fs) (sum (take k (widths fs))) f ≡ beside (set fs k f)
  over [] k l e = absurd (omega arith)
  over (g ∷ fs) zero l e = sets-eq f (g ++ beside fs) 0 (omega (arith, length-append g (beside fs))) ∙ rw (zero-add, e, drop-append_seam g (beside fs)) refl
  over (g ∷ fs) (suc k) l e = sets_behind g (beside fs) (sum (take k (widths fs))) f ∙ ap (λ (r : List ℕ). g ++ r) (over fs k (omega arith) e)

  same_widths : (fs : List (List ℕ)) (k : ℕ) → length f ≡ get_or (widths fs) k 0 → widths (set fs k f) ≡ widths fs
  same_widths [] k e = refl
  same_widths (g ∷ fs) zero e = rw e refl
  same_widths (g ∷ fs) (suc k) e = ap (λ (r : List ℕ). length g ∷ r) (same_widths fs k e)

  pub field_put : (ns : List ℕ) (k m : ℕ) {fs : List (List ℕ)} {ys zs : List ℕ} → Fields ns fs ys → k < length ns → sum (take k ns) ≡ m → length f ≡ get_or ns k 0
      → zs ≡ sets ys m f → Fields ns (set fs k f) zs
  field_put ns k m {fs} p l a b z =
      let w = p.wide in
      let e : length f ≡ get_or (widths fs) k 0 = rw w b in
      let q : sum (take k (widths fs)) ≡ m = rw w a in
      record { stand = z ∙ rw (p.stand, ← q) (over fs k (omega (arith, widths_length fs, ap length w)) e); wide = same_widths fs k e ∙ w }
