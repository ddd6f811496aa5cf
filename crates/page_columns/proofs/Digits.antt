-- A right-justified number: its last digit, and what stands before it; and column by column, at each power of ten a digit or a blank.
-- Assumes nothing.
use Prim.Native.Nat.{ℕ, zero, suc, ◌+◌, ◌-◌, ◌*◌, ◌/◌, ◌%◌, ◌^◌, ◌≤◌, ◌<◌}
use native.Mathlib.Decide.{dec_lt}
use native.Mathlib.Nat.{mul_comm, pow-suc, pow-le-pow_right, div-div-eq-div-mul}
use native.Mathlib.Omega.{arith}
use mathlib.Core.Path.{◌≡◌, refl, sym, ap, ◌∙◌}
use mathlib.Core.List.{List, [], ◌∷◌, ◌++◌, map, append_assoc}
use lib.ListN.{length, get_or, take, set, length-append}
use lib.Dec.{lit≤}
use borrow.Author.Tests.{lt-ltb, le-ltb}
use borrow.Rule.Slice.PartMut.{mid_of}
use Rattle.std.proofs.lemmas.List.{take_more, take_all, map-append}
use Rattle.text_numbers.specs.Print.{print_number}
use Rattle.text_numbers.specs.Inner.{Put}
use Rattle.text_numbers.proofs.Print.{print_small, print_big, print_length}
use Rattle.text_numbers.proofs.Writing.{put_one, put_then}
use Rattle.page_columns.specs.Columns.{blanks, right}
use Rattle.page_columns.specs.Inner.{digit_or_blank}
use Rattle.page_columns.proofs.Columns.{right_length, right_most}

module _ (w v : ℕ) where
  right_small : v < 10 → right w (print_number v) ≡ blanks (w - 1) ++ ((48 + v % 10) ∷ [])
  unfolding right
  right_small l =
      let e : 48 + v ≡ 48 + v % 10 = omega arith in
      rw (print_small v l, ← e) refl

  right_big : 10 ≤ v → v < 10 ^ 20 → right w (print_number v) ≡ right (w - 1) (print_number (v / 10)) ++ ((48 + v % 10) ∷ [])
  unfolding right
  right_big l h =
      let n : w - (length (print_number (v / 10)) + 1) ≡ w - 1 - length (print_number (v / 10)) = omega arith in
      rw (print_big v l h, length-append, n, append_assoc) refl

  -- the last digit put behind what stands before it
  module _ {at n : ℕ} {xs ys zs : List ℕ} (e : zs ≡ set ys n (48 + v % 10)) where
    pub small_put : v < 10 → Put (blanks (w - 1)) at xs n ys → Put (right w (print_number v)) at xs (n + 1) zs
    small_put l p = rw (right_small l) (put_then p (put_one n (48 + v % 10) ys zs e))

    pub big_put : 10 ≤ v → v < 10 ^ 20 → Put (right (w - 1) (print_number (v / 10))) at xs n ys → Put (right w (print_number v)) at xs (n + 1) zs
    big_put l h p = rw (right_big l h) (put_then p (put_one n (48 + v % 10) ys zs e))

  -- where it ends
  module _ {at n : ℕ} {xs zs : List ℕ} (p : Put (right w (print_number v)) at xs n zs) where
    pub right_ends : length (print_number v) ≤ w → n ≡ at + w
    right_ends h = omega (arith, p.after, right_length w (print_number v) h)

    pub right_bound : w ≤ 60 → n ≤ at + 80
    right_bound h = omega (arith, p.after, right_most w (print_number v), print_length v)

-- ---- a column
module _ (v p : ℕ) where
  pub digit_blank : v < p → digit_or_blank v p ≡ 32
  unfolding digit_or_blank
  digit_blank l = rw (lt-ltb v p l)

  pub digit_there : p ≤ v → digit_or_blank v p ≡ 48 + v / p % 10
  unfolding digit_or_blank
  digit_there l = rw (le-ltb v p l)

-- a column of the number without its last digit is the next one of the number
tenth : (v p : ℕ) → digit_or_blank (v / 10) p ≡ digit_or_blank v (p * 10)
tenth v p =
    elim (dec_lt (v / 10) p) [
      | yes l ↦ digit_blank (v / 10) p l ∙ sym (digit_blank v (p * 10) (omega arith))
      | no l ↦ let h : p ≤ v / 10 = omega arith in
          let e : v / 10 / p ≡ v / (p * 10) = div-div-eq-div-mul v 10 p ∙ ap (λ (n : ℕ). v / n) (mul_comm 10 p) in
          digit_there (v / 10) p h ∙ rw e (sym (digit_there v (p * 10) (omega arith)))
    ]

-- ---- all columns: at the powers of ten from 10 ^ k down to 10, and the last
abbrev powers : ℕ → List ℕ
powers zero = []
powers (suc k) = 10 ^ suc k ∷ powers k

-- of a number of one digit all but the last are blank
one_digit : (k v : ℕ) → v < 10 → map (digit_or_blank v) (powers k) ≡ blanks k
unfolding blanks
one_digit zero v l = refl
one_digit (suc k) v l =
    let p : 10 ^ 1 ≤ 10 ^ suc k = pow-le-pow_right {n = 10} (lit≤ tt) {i = 1} {j = suc k} (omega arith) in
    rw (digit_blank v (10 ^ suc k) (omega arith)) (ap (λ (r : List ℕ). 32 ∷ r) (one_digit k v l))

-- of a longer one they are those of the number without its last digit, and that number's last
shift : (k v : ℕ) → 10 ≤ v → map (digit_or_blank v) (powers (suc k)) ≡ map (digit_or_blank (v / 10)) (powers k) ++ ((48 + v / 10 % 10) ∷ [])
shift zero v l = ap (λ (d : ℕ). d ∷ []) (digit_there v 10 l)
shift (suc k) v l = rw (pow-suc 10 (suc k), ← tenth v (10 ^ suc k)) (ap (λ (r : List ℕ). digit_or_blank (v / 10) (10 ^ suc k) ∷ r) (shift k v l))

by_columns : (k v : ℕ) → v < 10 ^ suc k → v < 10 ^ 20 → right (suc k) (print_number v) ≡ map (digit_or_blank v) (powers k) ++ ((48 + v % 10) ∷ [])
unfolding blanks
by_columns zero v h x = right_small 1 v h
by_columns (suc k) v h x =
    let n : suc (suc k) - 1 ≡ suc k = omega arith in
    elim (dec_lt v 10) [
      | yes l ↦ right_small (suc (suc k)) v l ∙ rw n (ap (λ (r : List ℕ). r ++ ((48 + v % 10) ∷ [])) (sym (one_digit (suc k) v l)))
      | no l ↦ let p : v < 10 ^ suc k * 10 = rw pow-suc at h in
          right_big (suc (suc k)) v (omega arith) x
          ∙ rw n (ap (λ (r : List ℕ). r ++ ((48 + v % 10) ∷ [])) (by_columns k (v / 10) (omega arith) (omega arith) ∙ sym (shift k v (omega arith))))
    ]

-- ---- put so, where the powers are the last of those that the code has
abbrev all_powers : List ℕ
all_powers = 10000 ∷ 1000 ∷ 100 ∷ 10 ∷ []

abbrev pub powers_from : ℕ → List ℕ
powers_from w = mid_of (5 - w) (4 - (5 - w)) all_powers

from_is : (k : ℕ) → k ≤ 4 → powers_from (suc k) ≡ powers k
from_is zero h = refl
from_is (suc zero) h = refl
from_is (suc (suc zero)) h = refl
from_is (suc (suc (suc zero))) h = refl
from_is (suc (suc (suc (suc zero)))) h = refl
from_is (suc (suc (suc (suc (suc k))))) h = absurd (omega arith)

powers_length : (k : ℕ) → length (powers k) ≡ k
powers_length zero = refl
powers_length (suc k) = ap suc (powers_length k)

module _ (v : ℕ) {at : ℕ} {xs : List ℕ} where
  pub more_put : (ps : List ℕ) (i : ℕ) {b : ℕ} {ys zs : List ℕ} → i < length ps → Put (map (digit_or_blank v) (take i ps)) at xs (at + i) ys
      → b ≡ digit_or_blank v (get_or ps i 0) → zs ≡ set ys (at + i) b → Put (map (digit_or_blank v) (take (i + 1) ps)) at xs (at + (i + 1)) zs
  more_put ps i {b} {ys} {zs} l p d e =
      let n : at + i + 1 ≡ at + (i + 1) = omega arith in
      rw (← n, take_more ps i 0 l, map-append, ← d) (put_then p (put_one (at + i) b ys zs e))

  pub all_put : (w i : ℕ) {ys zs : List ℕ} → 1 ≤ w → w ≤ 5 → v < 10 ^ w → i ≡ length (powers_from w)
      → Put (map (digit_or_blank v) (take i (powers_from w))) at xs (at + i) ys → zs ≡ set ys (at + (w - 1)) (48 + v % 10) → Put (right w (print_number v)) at xs (at + w) zs
  all_put zero i h k l n p e = absurd (omega arith)
  all_put (suc w) i {ys} {zs} h k l n p e =
      let most : 10 ^ suc w ≤ 10 ^ 5 = pow-le-pow_right {n = 10} (lit≤ tt) {i = suc w} {j = 5} k in
      let ps : powers_from (suc w) ≡ powers w = from_is w (omega arith) in
      let m : i ≡ w = n ∙ ap length ps ∙ powers_length w in
      let here : at + (suc w - 1) ≡ at + w = omega arith in
      let next : at + w + 1 ≡ at + suc w = omega arith in
      let all : take w (powers w) ≡ powers w = take_all w (powers w) (omega (arith, powers_length w)) in
      let q : Put (map (digit_or_blank v) (powers w)) at xs (at + w) ys = rw (ps, m, all) at p in
      rw (by_columns w v l (omega arith), ← next) (put_then q (put_one (at + w) (48 + v % 10) ys zs (rw here at e)))
