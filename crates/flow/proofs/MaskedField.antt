-- An address of which the bits of a mask count is a field, for any masks. The laws go digit by digit. Assumes nothing.
use mathlib.Core.Path.{◌≡◌, refl, sym, ap, ◌∙◌}
use mathlib.Core.Bool.{Bool, true, false, ◌&&◌, ◌||◌, and-true, and-false, true≢false}
use Prim.Native.Nat.{ℕ, ◌^◌, ◌<◌}
use lib.Dec.{eqb}
use lib.Bits.{bit_and, bit_or, bit_xor, and_lt, or_lt, xor_lt}
use borrow.Author.Tests.{eq-eqb, eqb-true}
use Rattle.flow.specs.Matches.{Masked, masked_fits, masked_overlaps, masked_within, masked_clear}
use Rattle.flow.specs.Inner.{masked_meet}
use Rattle.basics.proofs.Booleans.{split, both_ways, and_intro, and_left, and_right}
use Rattle.flow.proofs.Digits.{digit, digit_and, digit_or, digit_xor, known_by_digits, xorb}
use Rattle.flow.proofs.Field.{IsField}

-- ---- one digit of each number
within_digit : (x v w m n : Bool) → (m && n) ≡ n → (v && n) ≡ (w && n) → (x && m) ≡ (v && m) → (x && n) ≡ (w && n)
within_digit x v w m false e f h = simp and-false
within_digit x v w true true e f h = h ∙ f
within_digit x v w false true e f h = cc

overlap_digit : (x v w m n : Bool) → (x && m) ≡ (v && m) → (x && n) ≡ (w && n) → (v && (m && n)) ≡ (w && (m && n))
overlap_digit x v w false n e f = simp and-false
overlap_digit x v w true false e f = simp and-false
overlap_digit x v w true true e f = sym e ∙ f

-- the value of the meet keeps both
meet_left_digit : (x v w m n : Bool) → (v && (m && n)) ≡ (w && (m && n)) → (x && (m || n)) ≡ ((v && m || w && n) && (m || n)) → (x && m) ≡ (v && m)
meet_left_digit x v w false n e f = simp and-false
meet_left_digit x true w true n e f = f
meet_left_digit x false true true true e f = absurd (true≢false (sym e))
meet_left_digit x false true true false e f = f
meet_left_digit x false false true n e f = f

meet_right_digit : (x v w m n : Bool) → (v && (m && n)) ≡ (w && (m && n)) → (x && (m || n)) ≡ ((v && m || w && n) && (m || n)) → (x && n) ≡ (w && n)
meet_right_digit x v w m false e f = simp and-false
meet_right_digit x v w false true e f = f ∙ simp (and-false, and-true)
meet_right_digit x true w true true e f = f ∙ e
meet_right_digit x false w true true e f = f ∙ simp and-true

meet_both_digit : (x v w m n : Bool) → (x && m) ≡ (v && m) → (x && n) ≡ (w && n) → (x && (m || n)) ≡ ((v && m || w && n) && (m || n))
meet_both_digit x v w false false e f = simp and-false
meet_both_digit x v w false true e f = f ∙ simp (and-false, and-true)
meet_both_digit x v w true n e f = e ∙ sym (absorb (v && true) (w && n) (λ u. go w n u (sym e) f))
  where
    absorb : (p q : Bool) → (q ≡ true → p ≡ true) → ((p || q) && true) ≡ p
    absorb true q h = refl
    absorb false true h = sym (h refl)
    absorb false false h = refl

    go : (w n : Bool) → (w && n) ≡ true → (v && true) ≡ (x && true) → (x && n) ≡ (w && n) → (v && true) ≡ true
    go true true u g h = g ∙ h
    go true false u g h = absurd (true≢false (sym u))
    go false n u g h = absurd (true≢false (sym u))

-- a value that differs from v where b's mask compares and a's does not
flip_kept : (v m n : Bool) → (xorb v (xorb n (m && n)) && m) ≡ (v && m)
flip_kept v false n = simp and-false
flip_kept true true true = refl
flip_kept true true false = refl
flip_kept false true true = refl
flip_kept false true false = refl

flip_seen : (v w m n : Bool) → (v && n) ≡ (w && n) → (xorb v (xorb n (m && n)) && n) ≡ (w && n) → (m && n) ≡ n
flip_seen v w m false f g = simp and-false
flip_seen v w true true f g = refl
flip_seen true w false true f g = g ∙ sym f
flip_seen false w false true f g = f ∙ sym g

-- ---- masked values
-- digit i of a & c and of b & c, where these are equal
at_digit : (a b c i : ℕ) → eqb (bit_and a c) (bit_and b c) ≡ true → (digit i a && digit i c) ≡ (digit i b && digit i c)
at_digit a b c i e = sym (digit_and i a c) ∙ ap (digit i) (eqb-true (bit_and a c) (bit_and b c) e) ∙ digit_and i b c

-- a & c and b & c are equal where their digits are
by_digit : (a b c : ℕ) → ((i : ℕ) → (digit i a && digit i c) ≡ (digit i b && digit i c)) → eqb (bit_and a c) (bit_and b c) ≡ true
by_digit a b c h = eq-eqb (bit_and a c) (bit_and b c) (known_by_digits (bit_and a c) (bit_and b c) (λ i. digit_and i a c ∙ h i ∙ sym (digit_and i b c)))

module _ (a b : Masked) where
  overlap_at : (i : ℕ) → masked_overlaps a b ≡ true → (digit i a.value && (digit i a.mask && digit i b.mask)) ≡ (digit i b.value && (digit i a.mask && digit i b.mask))
  overlap_at i h = simp digit_and at (at_digit a.value b.value (bit_and a.mask b.mask) i h)

  within_fits : masked_within a b ≡ true → (x : ℕ) → masked_fits a x ≡ true → masked_fits b x ≡ true
  within_fits h x e =
      let l = and_left (eqb (bit_and a.mask b.mask) b.mask) (eqb (bit_and a.value b.mask) (bit_and b.value b.mask)) h in
      let r = and_right (eqb (bit_and a.mask b.mask) b.mask) (eqb (bit_and a.value b.mask) (bit_and b.value b.mask)) h in
      by_digit x b.value b.mask (λ i. within_digit (digit i x) (digit i a.value) (digit i b.value) (digit i a.mask) (digit i b.mask)
      (sym (digit_and i a.mask b.mask) ∙ ap (digit i) (eqb-true (bit_and a.mask b.mask) b.mask l))
      (at_digit a.value b.value b.mask i r) (at_digit x a.value a.mask i e))

  fits_overlap : (x : ℕ) → masked_fits a x ≡ true → masked_fits b x ≡ true → masked_overlaps a b ≡ true
  fits_overlap x e k = by_digit a.value b.value (bit_and a.mask b.mask) (λ i. simp digit_and
      (overlap_digit (digit i x) (digit i a.value) (digit i b.value) (digit i a.mask) (digit i b.mask)
      (at_digit x a.value a.mask i e) (at_digit x b.value b.mask i k)))

  meet_fits : masked_overlaps a b ≡ true → (x : ℕ) → masked_fits (masked_meet a b) x ≡ masked_fits a x && masked_fits b x
  meet_fits h x = both_ways (masked_fits (masked_meet a b) x) (masked_fits a x && masked_fits b x)
      (λ e. and_intro
      (by_digit x a.value a.mask (λ i. meet_left_digit (digit i x) (digit i a.value) (digit i b.value) (digit i a.mask) (digit i b.mask) (overlap_at i h) (met e i)))
      (by_digit x b.value b.mask (λ i. meet_right_digit (digit i x) (digit i a.value) (digit i b.value) (digit i a.mask) (digit i b.mask) (overlap_at i h) (met e i))))
      (λ e. by_digit x (masked_meet a b).value (masked_meet a b).mask (λ i. simp (digit_and, digit_or)
      (meet_both_digit (digit i x) (digit i a.value) (digit i b.value) (digit i a.mask) (digit i b.mask)
      (at_digit x a.value a.mask i (and_left (masked_fits a x) (masked_fits b x) e)) (at_digit x b.value b.mask i (and_right (masked_fits a x) (masked_fits b x) e)))))
    where
      met : masked_fits (masked_meet a b) x ≡ true → (i : ℕ)
          → (digit i x && (digit i a.mask || digit i b.mask)) ≡ ((digit i a.value && digit i a.mask || digit i b.value && digit i b.mask) && (digit i a.mask || digit i b.mask))
      met e i = simp (digit_and, digit_or) at (at_digit x (masked_meet a b).value (masked_meet a b).mask i e)

  -- a value in which the bits that b compares and a does not are turned over
  flipped : ℕ
  flipped = bit_xor a.value (bit_xor b.mask (bit_and a.mask b.mask))

  flipped_fits : masked_fits a flipped ≡ true
  unfolding flipped
  flipped_fits = by_digit flipped a.value a.mask (λ i. simp (digit_xor, digit_and) (flip_kept (digit i a.value) (digit i a.mask) (digit i b.mask)))

  flipped_within : masked_fits b a.value ≡ true → masked_fits b flipped ≡ true → bit_and a.mask b.mask ≡ b.mask
  unfolding flipped
  flipped_within f g = known_by_digits (bit_and a.mask b.mask) b.mask (λ i. digit_and i a.mask b.mask
      ∙ flip_seen (digit i a.value) (digit i b.value) (digit i a.mask) (digit i b.mask)
      (at_digit a.value b.value b.mask i f) (simp (digit_and, digit_xor) at (at_digit flipped b.value b.mask i g)))

-- values and masks of k bits, no bit of the value outside the mask
pub record MaskedInRange (k : ℕ) (a : Masked) : Type 0 where
  pub value : a.value < 2 ^ k
  pub mask : a.mask < 2 ^ k
  pub clear : masked_clear a ≡ true

module _ (k : ℕ) where
  tells : (a b : Masked) → masked_within a b ≡ false
      → (x : ℕ) × (masked_fits a x ≡ true) × (masked_fits b x ≡ false) × (MaskedInRange k a → MaskedInRange k b → x < 2 ^ k)
  unfolding flipped
  tells a b e = split (masked_fits b a.value)
      (λ u. split (masked_fits b (flipped a b))
      (λ v. absurd (true≢false (sym (and_intro (eq-eqb (bit_and a.mask b.mask) b.mask (flipped_within a b u v)) u) ∙ e)))
      (λ v. (
        flipped a b,
        flipped_fits a b,
        v,
        λ i j. xor_lt k a.value (bit_xor b.mask (bit_and a.mask b.mask)) i.value
            (xor_lt k b.mask (bit_and a.mask b.mask) j.mask (and_lt k a.mask b.mask i.mask j.mask)),
      )))
      (λ u. (a.value, eq-eqb (bit_and a.value a.mask) (bit_and a.value a.mask) refl, u, λ i j. i.value))

  meet_ok : (a b : Masked) → MaskedInRange k a → MaskedInRange k b → MaskedInRange k (masked_meet a b)
  meet_ok a b i j =
      let v = bit_and a.value a.mask in
      let w = bit_and b.value b.mask in
      record {
        value = or_lt k v w (and_lt k a.value a.mask i.value i.mask) (and_lt k b.value b.mask j.value j.mask);
        mask = or_lt k a.mask b.mask i.mask j.mask;
        clear = eq-eqb (bit_and (bit_or v w) (bit_or a.mask b.mask)) (bit_or v w) (known_by_digits (bit_and (bit_or v w) (bit_or a.mask b.mask)) (bit_or v w)
            (λ d. simp (digit_and, digit_or) (kept (digit d a.value) (digit d b.value) (digit d a.mask) (digit d b.mask))));
      }
    where
      kept : (v w m n : Bool) → ((v && m || w && n) && (m || n)) ≡ (v && m || w && n)
      kept v w true n = and-true (v && true || w && n)
      kept v w false true = and-true (v && false || w && true)
      kept v w false false = rw (and-false v, and-false w) refl

  -- any masks of k bits
  pub masked_field : IsField (MaskedInRange k) (λ x. x < 2 ^ k) masked_fits masked_within masked_overlaps masked_meet (λ a. a.value)
  masked_field = record {
    point_fits = λ a. eq-eqb (bit_and a.value a.mask) (bit_and a.value a.mask) refl;
    point_ok = λ a i. i.value;
    within_fits = within_fits;
    tells = tells;
    fits_overlap = fits_overlap;
    meet_fits = meet_fits;
    meet_ok = meet_ok;
  }
