-- The bits of a word: of the bitwise operations, of a power of two, of what is shifted down. Assumes nothing.
use Prim.Native.Nat.{ℕ, zero, suc, ◌+◌, ◌-◌, ◌/◌, ◌%◌, ◌^◌, ◌≤◌, ◌<◌, min, max}
use native.Mathlib.Nat.{eq-or-lt_of_le, zero-div, div-eq_of_lt, pow-suc, div-one, lt_of_lt_of_le}
use native.Mathlib.Decide.{dec_lt}
use native.Mathlib.Omega.{arith}
use mathlib.Core.Path.{◌≡◌, refl, sym, ap, subst, ◌∙◌}
use mathlib.Core.Logic.{⊎_elim}
use mathlib.Core.Bool.{false, not, ◌&&◌, ◌||◌, cond}
use lib.Dec.{eqb, lit<}
use lib.Pow.{pow-add, pow-lt, pow_mono, shl-shr, shr-shr}
use lib.Bits.{bit_and, bit_or, bit_xor, differ, and_shr, or_shr, xor_shr, and_step, or_step, xor_step}
use borrow.Author.Tests.{eq-eqb, ne_eqb}
use Rattle.bit_sets.specs.Inner.{word_bit}

-- ---- the bitwise operations
by_digits : (P : ℕ → ℕ → Type 0) → P 0 0 → P 0 1 → P 1 0 → P 1 1 → (p q : ℕ) → p < 2 → q < 2 → P p q
by_digits P a b c d zero zero hp hq = a
by_digits P a b c d zero (suc zero) hp hq = b
by_digits P a b c d zero (suc (suc q)) hp hq = absurd (omega arith)
by_digits P a b c d (suc zero) zero hp hq = c
by_digits P a b c d (suc zero) (suc zero) hp hq = d
by_digits P a b c d (suc zero) (suc (suc q)) hp hq = absurd (omega arith)
by_digits P a b c d (suc (suc p)) q hp hq = absurd (omega arith)

or_digit : (x y : ℕ) → eqb (bit_or x y % 2) 1 ≡ (eqb (x % 2) 1 || eqb (y % 2) 1)
or_digit x y =
    let e : bit_or x y % 2 ≡ max (x % 2) (y % 2) = omega (arith, or_step x y) in
    ap (λ (n : ℕ). eqb n 1) e
    ∙ by_digits (λ p q. eqb (max p q) 1 ≡ (eqb p 1 || eqb q 1)) refl refl refl refl (x % 2) (y % 2) (omega arith) (omega arith)

and_digit : (x y : ℕ) → eqb (bit_and x y % 2) 1 ≡ (eqb (x % 2) 1 && eqb (y % 2) 1)
and_digit x y =
    let e : bit_and x y % 2 ≡ min (x % 2) (y % 2) = omega (arith, and_step x y) in
    ap (λ (n : ℕ). eqb n 1) e
    ∙ by_digits (λ p q. eqb (min p q) 1 ≡ (eqb p 1 && eqb q 1)) refl refl refl refl (x % 2) (y % 2) (omega arith) (omega arith)

xor_digit : (x y : ℕ) → eqb (bit_xor x y % 2) 1 ≡ cond (eqb (x % 2) 1) (not (eqb (y % 2) 1)) (eqb (y % 2) 1)
xor_digit x y =
    let l : differ (x % 2) (y % 2) < 2 = by_digits (λ p q. differ p q < 2) (lit< tt) (lit< tt) (lit< tt) (lit< tt) (x % 2) (y % 2) (omega arith) (omega arith) in
    let e : bit_xor x y % 2 ≡ differ (x % 2) (y % 2) = omega (arith, xor_step x y) in
    ap (λ (n : ℕ). eqb n 1) e
    ∙ by_digits (λ p q. eqb (differ p q) 1 ≡ cond (eqb p 1) (not (eqb q 1)) (eqb q 1)) refl refl refl refl (x % 2) (y % 2) (omega arith) (omega arith)

pub bit_or_lem : (x y k : ℕ) → word_bit (bit_or x y) k ≡ (word_bit x k || word_bit y k)
unfolding word_bit
bit_or_lem x y k = ap (λ (n : ℕ). eqb (n % 2) 1) (or_shr x y k) ∙ or_digit (x / 2 ^ k) (y / 2 ^ k)

pub bit_and_lem : (x y k : ℕ) → word_bit (bit_and x y) k ≡ (word_bit x k && word_bit y k)
unfolding word_bit
bit_and_lem x y k = ap (λ (n : ℕ). eqb (n % 2) 1) (and_shr x y k) ∙ and_digit (x / 2 ^ k) (y / 2 ^ k)

pub bit_xor_lem : (x y k : ℕ) → word_bit (bit_xor x y) k ≡ cond (word_bit x k) (not (word_bit y k)) (word_bit y k)
unfolding word_bit
bit_xor_lem x y k = ap (λ (n : ℕ). eqb (n % 2) 1) (xor_shr x y k) ∙ xor_digit (x / 2 ^ k) (y / 2 ^ k)

-- ---- a power of two
-- 2 ^ (d + i) shifted down by i
down : (d i : ℕ) → 2 ^ (d + i) / 2 ^ i ≡ 2 ^ d
down d i = ap (λ (n : ℕ). n / 2 ^ i) (pow-add 2 d i) ∙ shl-shr (2 ^ d) i

even_pow : (d : ℕ) → 0 < d → 2 ^ d % 2 ≡ 0
even_pow zero h = absurd (omega arith)
even_pow (suc d) h = omega (arith, pow-suc 2 d)

pow_below : (k i : ℕ) → i < k → 2 ^ k / 2 ^ i % 2 ≡ 0
pow_below k i h =
    subst (λ (n : ℕ). 2 ^ n / 2 ^ i % 2 ≡ 0) (omega arith) (ap (λ (n : ℕ). n % 2) (down (k - i) i) ∙ even_pow (k - i) (omega arith))

pow_same : (k : ℕ) → 2 ^ k / 2 ^ k % 2 ≡ 1
pow_same k = subst (λ (n : ℕ). 2 ^ n / 2 ^ k % 2 ≡ 1) (omega arith) (ap (λ (n : ℕ). n % 2) (down 0 k))

-- bits past a number's length
pub bit_past : (x m k : ℕ) → x < 2 ^ m → m ≤ k → word_bit x k ≡ false
unfolding word_bit
bit_past x m k h l = ap (λ (n : ℕ). eqb (n % 2) 1) (div-eq_of_lt (lt_of_lt_of_le h (pow_mono l)))

pub bit_pow : (k i : ℕ) → word_bit (2 ^ k) i ≡ eqb i k
unfolding word_bit
bit_pow k i =
    elim (dec_lt i k) [
      | yes l ↦ ap (λ (n : ℕ). eqb n 1) (pow_below k i l) ∙ sym (ne_eqb i k (λ e. omega arith))
      | no ge ↦
          ⊎_elim
          (λ e. subst (λ (n : ℕ). eqb (2 ^ k / 2 ^ n % 2) 1 ≡ eqb n k) e (ap (λ (n : ℕ). eqb n 1) (pow_same k) ∙ sym (eq-eqb k k refl)))
          (λ g. ap (λ (n : ℕ). eqb (n % 2) 1) (div-eq_of_lt (pow-lt g)) ∙ sym (ne_eqb i k (λ e. omega arith)))
          (eq-or-lt_of_le {n = k} {m = i} (omega arith))
    ]

-- ---- 0, a word shifted down, the first bit
pub bit_zero : (k : ℕ) → word_bit 0 k ≡ false
unfolding word_bit
bit_zero k = ap (λ (n : ℕ). eqb (n % 2) 1) (zero-div (2 ^ k))

pub bit_down : (x i k : ℕ) → word_bit (x / 2 ^ i) k ≡ word_bit x (i + k)
unfolding word_bit
bit_down x i k = ap (λ (n : ℕ). eqb (n % 2) 1) (shr-shr x i k)

pub bit_first : (x : ℕ) → word_bit x 0 ≡ eqb (x % 2) 1
unfolding word_bit
bit_first x = ap (λ (n : ℕ). eqb (n % 2) 1) (div-one x)

pub bit_half : (x k : ℕ) → word_bit x (suc k) ≡ word_bit (x / 2) k
bit_half x k = ap (word_bit x) (omega arith) ∙ sym (bit_down x 1 k)

-- ---- a word turned over: below 2 ^ d
pub bit_not_lem : (d y k : ℕ) → y < 2 ^ d → k < d → word_bit (2 ^ d - 1 - y) k ≡ not (word_bit y k)
bit_not_lem zero y k l m = absurd (omega arith)
bit_not_lem (suc d) y zero l m = bit_first (2 ^ suc d - 1 - y) ∙ turned (y % 2) (omega arith) (omega (arith, pow-suc 2 d)) ∙ ap not (sym (bit_first y))
  where
    turned : (r : ℕ) → r < 2 → (2 ^ suc d - 1 - y) % 2 ≡ 1 - r → eqb ((2 ^ suc d - 1 - y) % 2) 1 ≡ not (eqb r 1)
    turned zero h e = rw e refl
    turned (suc zero) h e = rw e refl
    turned (suc (suc r)) h e = absurd (omega arith)
bit_not_lem (suc d) y (suc k) l m =
    bit_half (2 ^ suc d - 1 - y) k ∙ ap (λ (n : ℕ). word_bit n k) (omega (arith, pow-suc 2 d)) ∙ bit_not_lem d (y / 2) k (omega (arith, pow-suc 2 d)) (omega arith) ∙ ap not (sym (bit_half y k))
