-- A decimal number is read from its own text, and from no other.
use Prim.Native.Nat.{ℕ, zero, suc, ◌+◌, ◌-◌, ◌*◌, ◌/◌, ◌%◌, ◌^◌, ◌≤◌, ◌<◌}
use mathlib.Core.Bool.{true, false, ◌&&◌, and-eq-true_iff}
use mathlib.Core.List.{List, [], ◌∷◌, ◌++◌, append_assoc}
use Rattle.std.specs.Prelude.{None, Some}
use mathlib.Core.Path.{◌≡◌, refl, sym, ◌∙◌, ap}
use native.Mathlib.Decide.{dec_lt}
use native.Mathlib.Nat.{pow-suc, add_assoc}
use native.Mathlib.Numerals.{add-one}
use native.Mathlib.Omega.{arith}
use borrow.Author.Tests.{le-leb, lt-leb, leb-true, ne_eqb, eqb-true, eqb-false}
use lib.Dec.{leb, eqb}
use lib.ListN.{length, get_or, drop, length-append, drop_of_length-le, get_or-eq_default}
use lib.Seq.{drop-cons, get_or-drop, append_snoc}
use Rattle.text_numbers.specs.Number.{is_digit, read_digits, read_number}
use Rattle.text_numbers.specs.Print.{decimal, print_number}
use Rattle.text_numbers.specs.Format.{Format}
use Rattle.text_numbers.proofs.Readers.{nothing, same_value, same_place, on_cond, behind, here}
use Rattle.text_numbers.proofs.Print.{decimal_small, decimal_big, print_small, print_big}

-- ---- digits
pub between : (a b z : ℕ) → (leb a b && leb b z) ≡ true → (a ≤ b) × (b ≤ z)
between a b z e = let (l, h) = (and-eq-true_iff (leb a b) (leb b z)).0 e in (leb-true a b l, leb-true b z h)

pub digit_range : (b : ℕ) → is_digit b ≡ true → (48 ≤ b) × (b ≤ 57)
unfolding is_digit
digit_range b e = between 48 b 57 e

digit_is : (b : ℕ) → 48 ≤ b → b ≤ 57 → is_digit b ≡ true
unfolding is_digit
digit_is b l h = rw (le-leb _ _ l, le-leb _ _ h)

-- a digit stands within the text
pub digit_in : (s : List ℕ) (i : ℕ) → is_digit (get_or s i 0) ≡ true → i < length s
digit_in s i e =
    elim (dec_lt i (length s)) [
      | yes l ↦ l
      | no l ↦ absurd (omega (arith, digit_range (get_or s i 0) e, get_or-eq_default s 0 {n = i} (omega arith)))
    ]

-- the digits from the byte i on, at the place n
module _ (max v : ℕ) (s : List ℕ) (i n : ℕ) where
  pub digits_end : length s ≤ i → read_digits max v (drop i s) n ≡ Some (v, n)
  unfolding read_digits
  digits_end h = rw (drop_of_length-le s)

  module _ (h : i < length s) where
    pub digits_stop : is_digit (get_or s i 0) ≡ false → read_digits max v (drop i s) n ≡ Some (v, n)
    unfolding read_digits
    digits_stop e = rw (drop-cons s i 0, e)

    module _ (e : is_digit (get_or s i 0) ≡ true) where
      pub digits_over : max < v * 10 + (get_or s i 0 - 48) → read_digits max v (drop i s) n ≡ None
      unfolding read_digits
      digits_over l = rw (drop-cons s i 0, e, lt-leb _ _ l)

      pub digits_more : v * 10 + (get_or s i 0 - 48) ≤ max
          → read_digits max v (drop i s) n ≡ read_digits max (v * 10 + (get_or s i 0 - 48)) (drop (i + 1) s) (n + 1)
      unfolding read_digits
      digits_more l = rw (drop-cons s i 0, e, le-leb _ _ l, add-one i)

-- ---- a number, by the tests that its reader makes
module _ (max : ℕ) (s : List ℕ) (at : ℕ) where
  pub number_none : is_digit (get_or s at 0) ≡ false → read_number max s at ≡ None
  unfolding read_number
  number_none e = rw e

  pub number_digits : is_digit (get_or s at 0) ≡ true → (get_or s at 0 ≡ 48 → ⊥) → read_number max s at ≡ read_digits max 0 (drop at s) at
  unfolding read_number
  number_digits d n = rw (d, ne_eqb _ _ n)

  module _ (z : get_or s at 0 ≡ 48) where
    pub number_zero : is_digit (get_or s (at + 1) 0) ≡ false → read_number max s at ≡ Some (0, at + 1)
    unfolding read_number is_digit
    number_zero e = rw (z, e)

    pub number_lead : is_digit (get_or s (at + 1) 0) ≡ true → read_number max s at ≡ None
    unfolding read_number is_digit
    number_lead e = rw (z, e)

-- ---- the text of a number reads as the number
digits_cons : (max v b : ℕ) (t : List ℕ) (at w : ℕ) → 48 ≤ b → b ≤ 57 → v * 10 + (b - 48) ≡ w → w ≤ max
    → read_digits max v (b ∷ t) at ≡ read_digits max w t (at + 1)
unfolding read_digits
digits_cons max v b t at w l h e m = rw (digit_is b l h, e, le-leb _ _ m)

digits_last : (max v : ℕ) (t : List ℕ) (at : ℕ) → is_digit (get_or t 0 0) ≡ false → read_digits max v t at ≡ Some (v, at)
unfolding read_digits
digits_last max v [] at e = refl
digits_last max v (b ∷ t) at e = rw e

digits_small : (max k v : ℕ) (t : List ℕ) (at : ℕ) → v ≤ max → v < 10
    → read_digits max 0 (decimal (suc k) v ++ t) at ≡ read_digits max v t (at + length (decimal (suc k) v))
digits_small max k v t at m l = rw (decimal_small k v l) (digits_cons max 0 (48 + v) t at v (omega arith) (omega arith) (omega arith) m)

digits_all : (max k v : ℕ) (t : List ℕ) (at : ℕ) → v ≤ max → v < 10 ^ suc k
    → read_digits max 0 (decimal (suc k) v ++ t) at ≡ read_digits max v t (at + length (decimal (suc k) v))
digits_all max zero v t at m h = digits_small max 0 v t at m h
digits_all max (suc k) v t at m h =
    elim (dec_lt v 10) [
      | yes l ↦ digits_small max (suc k) v t at m l
      | no l ↦ let q : v < 10 ^ suc k * 10 = rw pow-suc at h in
          rw (decimal_big (suc k) v (omega arith), append_assoc, length-append, ← add_assoc)
          (digits_all max k (v / 10) ((48 + v % 10) ∷ t) at (omega arith) (omega arith)
          ∙ digits_cons max (v / 10) (48 + v % 10) t (at + length (decimal (suc k) (v / 10))) v (omega arith) (omega arith) (omega arith) m)
    ]

-- the first digit of a number above 0 is no zero
first_digit : (k v : ℕ) (t : List ℕ) → 1 ≤ v → v < 10 ^ k → (49 ≤ get_or (decimal k v ++ t) 0 0) × (get_or (decimal k v ++ t) 0 0 ≤ 57)
first_digit zero v t p h = absurd (omega arith)
first_digit (suc k) v t p h =
    elim (dec_lt v 10) [
      | yes l ↦ rw (decimal_small k v l) (omega arith, omega arith)
      | no l ↦ let q : v < 10 ^ k * 10 = rw pow-suc at h in
          rw (decimal_big k v (omega arith), append_assoc) (first_digit k (v / 10) ((48 + v % 10) ∷ [] ++ t) (omega arith) (omega arith))
    ]

pub number_reads : (max v : ℕ) (s : List ℕ) (at : ℕ) (rest : List ℕ) → v ≤ max → max < 10 ^ 20 → is_digit (get_or rest 0 0) ≡ false
    → drop at s ≡ print_number v ++ rest → read_number max s at ≡ Some (v, at + length (print_number v))
unfolding print_number decimal
number_reads max zero s at rest m x e h =
    let z : get_or s at 0 ≡ 48 = here s at ∙ rw h in
    let n : get_or s (at + 1) 0 ≡ get_or rest 0 0 = sym (get_or-drop at s 1 0) ∙ rw h in
    number_zero max s at z (rw n e)
number_reads max (suc v) s at rest m x e h =
    let f = first_digit 20 (suc v) rest (omega arith) (omega arith) in
    let z : get_or s at 0 ≡ get_or (print_number (suc v) ++ rest) 0 0 = here s at ∙ rw h in
    number_digits max s at (digit_is _ (omega (arith, f)) (omega (arith, f))) (λ y. omega (arith, f))
    ∙ rw h (digits_all max 19 (suc v) rest at m (omega arith))
    ∙ digits_last max (suc v) rest _ e

-- ---- what reads as a number is its text
print_snoc : (v b : ℕ) → 1 ≤ v → 48 ≤ b → b ≤ 57 → v * 10 + (b - 48) < 10 ^ 20 → print_number (v * 10 + (b - 48)) ≡ print_number v ++ (b ∷ [])
print_snoc v b p l h x =
    let q : (v * 10 + (b - 48)) / 10 ≡ v = omega arith in
    let r : 48 + (v * 10 + (b - 48)) % 10 ≡ b = omega arith in
    print_big (v * 10 + (b - 48)) (omega arith) x ∙ rw (q, r)

module _ (max : ℕ) (x : max < 10 ^ 20) (s : List ℕ) (w n : ℕ) where
  -- the text of v and the bytes t from a place on are the text of w and the bytes from the place n on
  abbrev Whole : ℕ → List ℕ → ℕ → Type 0
  Whole v t at = (w ≤ max) × (print_number v ++ t ≡ print_number w ++ drop n s) × (n + length (print_number v) ≡ at + length (print_number w))

  no_digit : (v : ℕ) (t : List ℕ) (at : ℕ) → v ≤ max → drop at s ≡ t → v ≡ w → at ≡ n → Whole v t at
  no_digit v t at m h p q = rw (← p, ← q, h) (m, refl, refl)

  one_digit : (v b : ℕ) (t : List ℕ) (at : ℕ) → 1 ≤ v → is_digit b ≡ true → v * 10 + (b - 48) ≤ max → Whole (v * 10 + (b - 48)) t (at + 1) → Whole v (b ∷ t) at
  one_digit v b t at p d m i =
      let (l, h) = digit_range b d in
      let e : print_number (v * 10 + (b - 48)) ≡ print_number v ++ (b ∷ []) = print_snoc v b p l h (omega arith) in
      (i.0, sym (append_snoc (print_number v) b t) ∙ rw (← e) i.1, omega (arith, i.2, ap length e, length-append (print_number v) (b ∷ [])))

  digits_only : (v : ℕ) (t : List ℕ) (at : ℕ) → 1 ≤ v → v ≤ max → drop at s ≡ t → read_digits max v t at ≡ Some (w, n) → Whole v t at
  unfolding read_digits
  digits_only v [] at p m h e = no_digit v [] at m h (same_value e) (same_place e)
  digits_only v (b ∷ t) at p m h e =
      on_cond (is_digit b)
      (λ d e₁. on_cond (leb (v * 10 + (b - 48)) max)
      (λ l e₂. one_digit v b t at p d (leb-true _ _ l) (digits_only (v * 10 + (b - 48)) t (at + 1) (omega arith) (leb-true _ _ l) (behind (b ∷ []) t s at h) e₂))
      (λ l e₂. nothing e₂) e₁)
      (λ d e₁. no_digit v (b ∷ t) at m h (same_value e₁) (same_place e₁)) e

  -- the whole text, by its first digit
  module _ (at : ℕ) (d : is_digit (get_or s at 0) ≡ true) where
    first_zero : get_or s at 0 ≡ 48 → 0 ≡ w → at + 1 ≡ n → (w ≤ max) × (drop at s ≡ print_number w ++ drop n s) × (n ≡ at + length (print_number w))
    first_zero z p q = rw (← p, ← q, print_small 0 (omega arith)) (omega arith, drop-cons s at 0 (digit_in s at d) ∙ rw (z, add-one), refl)

    first_other : (get_or s at 0 ≡ 48 → ⊥) → read_digits max 0 (drop at s) at ≡ Some (w, n) → (w ≤ max) × (drop at s ≡ print_number w ++ drop n s) × (n ≡ at + length (print_number w))
    unfolding read_digits
    first_other z e =
        let b = get_or s at 0 in
        let (l, h) = digit_range b d in
        let c : drop at s ≡ b ∷ drop (suc at) s = drop-cons s at 0 (digit_in s at d) in
        let u : print_number (0 * 10 + (b - 48)) ≡ b ∷ [] = print_small (0 * 10 + (b - 48)) (omega arith) ∙ ap (λ (k : ℕ). k ∷ []) (omega arith) in
        on_cond (leb (0 * 10 + (b - 48)) max)
        (λ m p. let i = digits_only (0 * 10 + (b - 48)) (drop (suc at) s) (at + 1) (omega arith) (leb-true _ _ m) (rw add-one) p in
        (i.0, c ∙ rw u at i.1, omega (arith, i.2, ap length u)))
        (λ m p. nothing p) (rw (c, d) at e)

pub number_only : (max : ℕ) (s : List ℕ) (at v n : ℕ) → max < 10 ^ 20 → read_number max s at ≡ Some (v, n)
    → (v ≤ max) × (drop at s ≡ print_number v ++ drop n s) × (n ≡ at + length (print_number v))
unfolding read_number
number_only max s at v n x e =
    on_cond (is_digit (get_or s at 0))
    (λ d e₁. on_cond (eqb (get_or s at 0) 48)
    (λ z e₂. on_cond (is_digit (get_or s (at + 1) 0))
    (λ d₂ e₃. nothing e₃)
    (λ d₂ e₃. first_zero max x s v n at d (eqb-true (get_or s at 0) 48 z) (same_value e₃) (same_place e₃)) e₂)
    (λ z e₂. first_other max x s v n at d (eqb-false (get_or s at 0) 48 z) e₂) e₁)
    (λ d e₁. nothing e₁) e

pub number_format : (max : ℕ) → max < 10 ^ 20 → Format (λ v. v ≤ max) print_number (read_number max)
number_format max x = record {
  reads = λ v m s at rest e h. number_reads max v s at rest m x e.digit h;
  only = λ s at v n e. number_only max s at v n x e;
}
