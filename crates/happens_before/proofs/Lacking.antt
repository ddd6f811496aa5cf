-- Whether a set lacks a member of another, word by word. Assumes nothing.
use Prim.Native.Nat.{ℕ, zero, suc, ◌+◌, ◌*◌, ◌/◌, ◌%◌, ◌^◌, ◌<◌}
use native.Mathlib.Nat.{div-one}
use native.Mathlib.Decide.{dec_lt}
use native.Mathlib.Omega.{arith}
use mathlib.Core.Path.{◌≡◌, refl, sym, ap, ◌∙◌}
use mathlib.Core.List.{List}
use mathlib.Core.Bool.{Bool, true, false, not, ◌&&◌, false≢true, true≢false}
use lib.Dec.{eqb}
use lib.ListN.{get_or}
use lib.Pow.{shr-shr}
use lib.Bits.{bit_and}
use borrow.Author.Tests.{eqb-true, eqb-false, not-true}
use Rattle.basics.proofs.Booleans.{split, and_left, and_right, and_intro, and_absorb_right}
use Rattle.basics.proofs.Searches.{any_none, any_found, any_at}
use Rattle.bit_sets.specs.Inner.{word_bit, member}
use Rattle.bit_sets.proofs.BitLaws.{bit_and_lem, bit_past}
use Rattle.flow.proofs.Digits.{digit, digit_and, known_by_digits}
use Rattle.happens_before.specs.Inner.{lacks_bit}

-- the bits of a word are its digits
bit_digit : (k x : ℕ) → word_bit x k ≡ digit k x
unfolding word_bit digit
bit_digit zero x = ap (λ (n : ℕ). eqb (n % 2) 1) (div-one x)
bit_digit (suc k) x = ap (λ (n : ℕ). eqb (x / 2 ^ n % 2) 1) (omega arith) ∙ ap (λ (n : ℕ). eqb (n % 2) 1) (sym (shr-shr x 1 k)) ∙ bit_digit k (x / 2)

missing_none : (p q : Bool) → (p && q) ≡ q → (q && not p) ≡ false
missing_none true true e = refl
missing_none true false e = refl
missing_none false true e = absurd (false≢true e)
missing_none false false e = refl

module _ (x y : ℕ) where
  lacks_no_bit : lacks_bit x y ≡ false → (k : ℕ) → k < 64 → word_bit y k ≡ true → word_bit x k ≡ true
  unfolding lacks_bit
  lacks_no_bit e k l h = split (word_bit x k)
      (λ u. u)
      (λ u. absurd (true≢false (sym (any_at (λ k. word_bit y k && not (word_bit x k)) 64 k l (and_intro h (ap not u))) ∙ e)))

  covered : y < 2 ^ 64 → lacks_bit x y ≡ false → bit_and x y ≡ y
  covered h e = known_by_digits (bit_and x y) y (λ i. digit_and i x y ∙ sym (and_absorb_right (digit i x) (digit i y) (at i)))
    where
      at : (i : ℕ) → digit i y ≡ true → digit i x ≡ true
      at i d = elim (dec_lt i 64) [
        | yes l ↦ sym (bit_digit i x) ∙ lacks_no_bit e i l (bit_digit i y ∙ d)
        | no m ↦ absurd (false≢true (sym (bit_past y 64 i h (omega arith)) ∙ bit_digit i y ∙ d))
      ]

  lacks_none_of : bit_and x y ≡ y → lacks_bit x y ≡ false
  unfolding lacks_bit
  lacks_none_of e = sym (any_none (λ k. word_bit y k && not (word_bit x k)) 64
      (λ k l. missing_none (word_bit x k) (word_bit y k) (sym (bit_and_lem x y k) ∙ ap (λ (n : ℕ). word_bit n k) e)))

  -- what the code tests
  pub lacks_test : y < 2 ^ 64 → not (eqb (bit_and x y) y) ≡ lacks_bit x y
  lacks_test h = split (eqb (bit_and x y) y)
      (λ e. rw e (sym (lacks_none_of (eqb-true (bit_and x y) y e))))
      (λ e. rw e (split (lacks_bit x y) sym (λ f. absurd (eqb-false (bit_and x y) y e (covered h f)))))

module _ (a b : List ℕ) (w : ℕ) where
  pub lacks_none : lacks_bit (get_or a w 0) (get_or b w 0) ≡ false → (k : ℕ) → k / 64 ≡ w → member b k ≡ true → member a k ≡ true
  unfolding member
  lacks_none e k q h = rw q (lacks_no_bit (get_or a w 0) (get_or b w 0) e (k % 64) (omega arith) (rw q at h))

  pub lacks_found : lacks_bit (get_or a w 0) (get_or b w 0) ≡ true → (k : ℕ) × (k / 64 ≡ w) × (member b k ≡ true) × (member a k ≡ false)
  unfolding lacks_bit member
  lacks_found e =
      let (k, l, m) = any_found (λ k. word_bit (get_or b w 0) k && not (word_bit (get_or a w 0) k)) 64 e in
      let q : (64 * w + k) / 64 ≡ w = omega arith in
      let r : (64 * w + k) % 64 ≡ k = omega arith in
      (64 * w + k, q, rw (q, r) (and_left (word_bit (get_or b w 0) k) _ m), rw (q, r) (not-true _ (and_right (word_bit (get_or b w 0) k) _ m)))
