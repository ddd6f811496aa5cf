-- A number of eight hexadecimal digits is read from its own text, and from no other.
use Prim.Native.Nat.{ℕ, zero, suc, ◌+◌, ◌-◌, ◌*◌, ◌/◌, ◌%◌, ◌^◌, ◌≤◌, ◌<◌}
use mathlib.Core.Bool.{Bool, true, false, cond, ◌&&◌}
use mathlib.Core.List.{List, [], ◌∷◌, ◌++◌, append_assoc}
use Rattle.std.specs.Prelude.{Option, None, Some, option_and_then}
use Rattle.std.proofs.lemmas.Option.{same_Some}
use mathlib.Core.Path.{◌≡◌, refl, sym, ◌∙◌, ap}
use native.Mathlib.Decide.{dec_lt}
use native.Mathlib.Nat.{pow-suc, add-zero, pow-le-pow_right, lt_of_lt_of_le}
use native.Mathlib.Numerals.{add-one}
use native.Mathlib.Omega.{arith}
use borrow.Author.Tests.{lt-ltb, le-ltb, le-leb, lt-leb}
use lib.Dec.{leb, lit≤}
use lib.ListN.{length, get_or, drop, get_or-eq_default}
use lib.Seq.{drop-cons, append_snoc}
use Rattle.text_numbers.specs.Number.{is_digit, hex_value, read_hex_digits, read_hex}
use Rattle.text_numbers.specs.Print.{hex_digit, hexadecimal, print_hex}
use Rattle.text_numbers.specs.Format.{Format}
use Rattle.text_numbers.proofs.Readers.{nothing, same_value, same_place, behind, here}
use Rattle.text_numbers.proofs.Numbers.{between, digit_range}
use Rattle.text_numbers.proofs.Print.{hexadecimal_length}

-- ---- digits
value_digit : (n : ℕ) → n < 16 → hex_value (hex_digit n) ≡ Some n
unfolding is_digit hex_value hex_digit
value_digit n h =
    elim (dec_lt n 10) [
      | yes l ↦ rw (lt-ltb _ _ l, le-leb 48 (48 + n) (omega arith), le-leb (48 + n) 57 (omega arith)) (ap Some (omega arith))
      | no l ↦ rw (
        le-ltb n 10 (omega arith),
        le-leb 48 (97 + (n - 10)) (omega arith),
        lt-leb (97 + (n - 10)) 57 (omega arith),
        le-leb 97 (97 + (n - 10)) (omega arith),
        le-leb (97 + (n - 10)) 102 (omega arith),
      ) (ap Some (omega arith))
    ]

module _ (b d : ℕ) where
  digit_by : (t u : Bool) → is_digit b ≡ t → (leb 97 b && leb b 102) ≡ u → cond t (Some (b - 48)) (cond u (Some (b - 97 + 10)) None) ≡ Some d
      → (d ≤ 15) × (hex_digit d ≡ b)
  unfolding hex_digit
  digit_by true u x e h =
      let (l, m) = digit_range b x in
      let p : b - 48 ≡ d = same_Some _ _ h in
      (omega arith, rw (lt-ltb d 10 (omega arith)) (omega arith))
  digit_by false true x e h =
      let (l, m) = between 97 b 102 e in
      let p : b - 97 + 10 ≡ d = same_Some _ _ h in
      (omega arith, rw (le-ltb d 10 (omega arith)) (omega arith))
  digit_by false false x e h = nothing h

  pub digit_value : hex_value b ≡ Some d → (d ≤ 15) × (hex_digit d ≡ b)
  unfolding hex_value
  digit_value h = digit_by (is_digit b) (leb 97 b && leb b 102) refl refl h

-- a digit stands within the text
hex_in : (s : List ℕ) (i d : ℕ) → hex_value (get_or s i 0) ≡ Some d → i < length s
unfolding is_digit hex_value
hex_in s i d e =
    elim (dec_lt i (length s)) [
      | yes l ↦ l
      | no l ↦ nothing (rw (get_or-eq_default s 0 {n = i} (omega arith)) at e)
    ]

-- ---- the digits from a place on
-- fewer than the digits that are read are none
short_by : (k v : ℕ) (s : List ℕ) (at : ℕ) → length s < at + suc k → (r : Option ℕ) → hex_value (get_or s at 0) ≡ r
    → option_and_then (λ d. read_hex_digits k (v * 16 + d) s (at + 1)) r ≡ None
unfolding read_hex_digits
short_by k v s at h None e = refl
short_by zero v s at h (Some d) e = absurd (omega (arith, hex_in s at d e))
short_by (suc k) v s at h (Some d) e = short_by k (v * 16 + d) s (at + 1) (omega arith) (hex_value (get_or s (at + 1) 0)) refl

pub hex_short : (s : List ℕ) (at : ℕ) → length s < at + 8 → read_hex s at ≡ None
unfolding read_hex read_hex_digits
hex_short s at h = short_by 7 0 s at h (hex_value (get_or s at 0)) refl

-- where i of the eight stand before the place
module _ (v : ℕ) (s : List ℕ) (at i : ℕ) where
  pub hex_end : 8 ≤ i → read_hex_digits (8 - i) v s at ≡ Some (v, at)
  unfolding read_hex_digits
  hex_end h = let e : 8 - i ≡ 0 = omega arith in rw e

  module _ (h : i < 8) where
    count : 8 - i ≡ suc (8 - (i + 1))
    count = omega arith

    pub hex_none : hex_value (get_or s at 0) ≡ None → read_hex_digits (8 - i) v s at ≡ None
    unfolding read_hex_digits
    hex_none e = rw (count, e)

    pub hex_more : (d : ℕ) → hex_value (get_or s at 0) ≡ Some d → read_hex_digits (8 - i) v s at ≡ read_hex_digits (8 - (i + 1)) (v * 16 + d) s (at + 1)
    unfolding read_hex_digits
    hex_more d e = rw (count, e)

-- the value of i digits and one more
module _ (v d i : ℕ) (h : v < 16 ^ i) (l : d ≤ 15) where
  pub hex_grows : v * 16 + d < 16 ^ (i + 1)
  hex_grows = rw (add-one, pow-suc) (omega arith)

  pub hex_fits : i < 8 → v * 16 + d < 2 ^ 32
  hex_fits k = lt_of_lt_of_le hex_grows (pow-le-pow_right {n = 16} (lit≤ tt) {i = i + 1} {j = 8} (omega arith))

-- ---- the text of a number reads as the number
hex_cons : (k v d : ℕ) (s : List ℕ) (at : ℕ) → d < 16 → get_or s at 0 ≡ hex_digit d → read_hex_digits (suc k) v s at ≡ read_hex_digits k (v * 16 + d) s (at + 1)
unfolding read_hex_digits
hex_cons k v d s at h e = rw (e, value_digit d h)

hex_all : (j k v : ℕ) (s : List ℕ) (at : ℕ) (rest : List ℕ) → v < 16 ^ j → drop at s ≡ hexadecimal j v ++ rest
    → read_hex_digits (j + k) 0 s at ≡ read_hex_digits k v s (at + j)
unfolding hexadecimal
hex_all zero k v s at rest h t =
    let e : v ≡ 0 = omega arith in
    let q : 0 + k ≡ k = omega arith in
    rw (e, q, add-zero)
hex_all (suc j) k v s at rest h t =
    let p : v < 16 ^ j * 16 = rw pow-suc at h in
    let c : suc j + k ≡ j + suc k = omega arith in
    let q : at + j + 1 ≡ at + suc j = omega arith in
    let w : v / 16 * 16 + v % 16 ≡ v = omega arith in
    let u : drop at s ≡ hexadecimal j (v / 16) ++ (hex_digit (v % 16) ∷ rest) = t ∙ append_assoc (hexadecimal j (v / 16)) (hex_digit (v % 16) ∷ []) rest in
    let b : get_or s (at + j) 0 ≡ hex_digit (v % 16) = here s (at + j) ∙ rw (rw hexadecimal_length at (behind (hexadecimal j (v / 16)) (hex_digit (v % 16) ∷ rest) s at u)) in
    rw c (hex_all j (suc k) (v / 16) s at (hex_digit (v % 16) ∷ rest) (omega arith) u ∙ hex_cons k (v / 16) (v % 16) s (at + j) (omega arith) b ∙ rw (w, q))

hex_reads : (v : ℕ) → v < 2 ^ 32 → (s : List ℕ) (at : ℕ) (rest : List ℕ) → drop at s ≡ print_hex v ++ rest → read_hex s at ≡ Some (v, at + length (print_hex v))
unfolding print_hex read_hex read_hex_digits
hex_reads v h s at rest t = rw (hexadecimal_length 8 v) (hex_all 8 0 v s at rest h t)

-- ---- what reads as a number is its text
hexadecimal_snoc : (i v d : ℕ) → d ≤ 15 → hexadecimal (suc i) (v * 16 + d) ≡ hexadecimal i v ++ (hex_digit d ∷ [])
unfolding hexadecimal
hexadecimal_snoc i v d h =
    let q : (v * 16 + d) / 16 ≡ v = omega arith in
    let r : (v * 16 + d) % 16 ≡ d = omega arith in
    rw (q, r)

module _ (s : List ℕ) (w n : ℕ) where
  -- i digits with the value v and k more from a place on are the digits of w
  abbrev Whole : ℕ → ℕ → ℕ → ℕ → Type 0
  Whole i k v at = (w < 16 ^ (i + k)) × (hexadecimal i v ++ drop at s ≡ hexadecimal (i + k) w ++ drop n s) × (n ≡ at + k)

  no_digit : (i v at : ℕ) → v < 16 ^ i → v ≡ w → at ≡ n → Whole i 0 v at
  no_digit i v at h p q = rw (← p, ← q, add-zero i) (h, refl, rw add-zero)

  one_digit : (i k v at d : ℕ) → hex_value (get_or s at 0) ≡ Some d → Whole (suc i) k (v * 16 + d) (at + 1) → Whole i (suc k) v at
  one_digit i k v at d e t =
      let l : at < length s = hex_in s at d e in
      let c : i + suc k ≡ suc i + k = omega arith in
      let (h, b) = digit_value (get_or s at 0) d e in
      let u : hexadecimal (suc i) (v * 16 + d) ≡ hexadecimal i v ++ (get_or s at 0 ∷ []) = hexadecimal_snoc i v d h ∙ rw b in
      rw c (t.0, rw (drop-cons s at 0 l, ← add-one at) (sym (append_snoc (hexadecimal i v) (get_or s at 0) (drop (at + 1) s)) ∙ rw (← u) t.1), omega (arith, t.2))

  by_digit : (i k v at : ℕ) → v < 16 ^ i → ((d : ℕ) → d ≤ 15 → read_hex_digits k (v * 16 + d) s (at + 1) ≡ Some (w, n) → Whole (suc i) k (v * 16 + d) (at + 1))
      → (r : Option ℕ) → hex_value (get_or s at 0) ≡ r → option_and_then (λ d. read_hex_digits k (v * 16 + d) s (at + 1)) r ≡ Some (w, n) → Whole i (suc k) v at
  by_digit i k v at h more None q p = nothing p
  by_digit i k v at h more (Some d) q p = one_digit i k v at d q (more d (digit_value (get_or s at 0) d q).0 p)

  hex_only : (i k v at : ℕ) → v < 16 ^ i → read_hex_digits k v s at ≡ Some (w, n) → Whole i k v at
  unfolding read_hex_digits
  hex_only i zero v at h e = no_digit i v at h (same_value e) (same_place e)
  hex_only i (suc k) v at h e =
      by_digit i k v at h (λ d l p. hex_only (suc i) k (v * 16 + d) (at + 1) (rw add-one at (hex_grows v d i h l)) p) (hex_value (get_or s at 0)) refl e

pub hex_format : Format (λ v. v < 2 ^ 32) print_hex read_hex
unfolding print_hex read_hex hexadecimal
hex_format = record {
  reads = λ v h s at rest e t. hex_reads v h s at rest t;
  only = λ s at v n e. let (h, t, p) = hex_only s v n 0 8 0 at (omega arith) e in (h, t, p ∙ rw (hexadecimal_length 8 v));
}
