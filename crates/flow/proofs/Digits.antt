-- The binary digits of a number as Bools: what `&`, `|` and `^` do to them, and that a number is known by its digits.
-- Assumes nothing.
use mathlib.Core.Path.{◌≡◌, refl, sym, ap, ◌∙◌}
use mathlib.Core.Bool.{Bool, true, false, ◌&&◌, ◌||◌}
use mathlib.Core.Logic.{◌⊎◌, inl, inr}
use Prim.Native.Nat.{ℕ, zero, suc, ◌+◌, ◌*◌, ◌/◌, ◌%◌, ◌^◌, ◌<◌, min, max}
use native.Mathlib.Nat.{mod-lt, pow-suc}
use native.Mathlib.Omega.{arith}
use lib.Dec.{eqb, lit<}
use lib.Pow.{low}
use lib.Bits.{bit_and, bit_or, bit_xor, differ, and_step, or_step, xor_step, and_shr, or_shr, xor_shr}

abbrev pub xorb : Bool → Bool → Bool
xorb true true = false
xorb true false = true
xorb false b = b

-- digit i of n
unfoldable pub digit : ℕ → ℕ → Bool
digit zero n = eqb (n % 2) 1
digit (suc i) n = digit i (n / 2)

two : (n : ℕ) → n < 2 → (n ≡ 0) ⊎ (n ≡ 1)
two zero h = inl refl
two (suc zero) h = inr refl
two (suc (suc n)) h = absurd (omega arith)

-- an operation on numbers that goes digit by digit
module _ (op : ℕ → ℕ → ℕ) (f : ℕ → ℕ → ℕ) (g : Bool → Bool → Bool)
    (step : (a b : ℕ) → op a b ≡ op (a / 2) (b / 2) * 2 + f (a % 2) (b % 2))
    (half : (a b k : ℕ) → op a b / 2 ^ k ≡ op (a / 2 ^ k) (b / 2 ^ k))
    (small : (x y : ℕ) → (x ≡ 0) ⊎ (x ≡ 1) → (y ≡ 0) ⊎ (y ≡ 1) → (f x y < 2) × (eqb (f x y) 1 ≡ g (eqb x 1) (eqb y 1))) where
  digit_op : (i a b : ℕ) → digit i (op a b) ≡ g (digit i a) (digit i b)
  unfolding digit
  digit_op zero a b =
      let s = small (a % 2) (b % 2) (two (a % 2) (mod-lt a (lit< tt))) (two (b % 2) (mod-lt b (lit< tt))) in
      ap (λ (x : ℕ). eqb (x % 2) 1) (step a b) ∙ ap (λ (x : ℕ). eqb x 1) (low (op (a / 2) (b / 2)) 1 s.0) ∙ s.1
  digit_op (suc i) a b = ap (λ (x : ℕ). digit i x) (half a b 1) ∙ digit_op i (a / 2) (b / 2)

small_and : (x y : ℕ) → (x ≡ 0) ⊎ (x ≡ 1) → (y ≡ 0) ⊎ (y ≡ 1) → (min x y < 2) × (eqb (min x y) 1 ≡ (eqb x 1 && eqb y 1))
small_and x y (inl p) (inl q) = rw (p, q) (lit< tt, refl)
small_and x y (inl p) (inr q) = rw (p, q) (lit< tt, refl)
small_and x y (inr p) (inl q) = rw (p, q) (lit< tt, refl)
small_and x y (inr p) (inr q) = rw (p, q) (lit< tt, refl)

small_or : (x y : ℕ) → (x ≡ 0) ⊎ (x ≡ 1) → (y ≡ 0) ⊎ (y ≡ 1) → (max x y < 2) × (eqb (max x y) 1 ≡ (eqb x 1 || eqb y 1))
small_or x y (inl p) (inl q) = rw (p, q) (lit< tt, refl)
small_or x y (inl p) (inr q) = rw (p, q) (lit< tt, refl)
small_or x y (inr p) (inl q) = rw (p, q) (lit< tt, refl)
small_or x y (inr p) (inr q) = rw (p, q) (lit< tt, refl)

small_xor : (x y : ℕ) → (x ≡ 0) ⊎ (x ≡ 1) → (y ≡ 0) ⊎ (y ≡ 1) → (differ x y < 2) × (eqb (differ x y) 1 ≡ xorb (eqb x 1) (eqb y 1))
small_xor x y (inl p) (inl q) = rw (p, q) (lit< tt, refl)
small_xor x y (inl p) (inr q) = rw (p, q) (lit< tt, refl)
small_xor x y (inr p) (inl q) = rw (p, q) (lit< tt, refl)
small_xor x y (inr p) (inr q) = rw (p, q) (lit< tt, refl)

pub digit_and : (i a b : ℕ) → digit i (bit_and a b) ≡ (digit i a && digit i b)
digit_and = digit_op bit_and min ◌&&◌ and_step and_shr small_and

pub digit_or : (i a b : ℕ) → digit i (bit_or a b) ≡ (digit i a || digit i b)
digit_or = digit_op bit_or max ◌||◌ or_step or_shr small_or

pub digit_xor : (i a b : ℕ) → digit i (bit_xor a b) ≡ xorb (digit i a) (digit i b)
digit_xor = digit_op bit_xor differ xorb xor_step xor_shr small_xor

same_odd : (x y : ℕ) → (x ≡ 0) ⊎ (x ≡ 1) → (y ≡ 0) ⊎ (y ≡ 1) → eqb x 1 ≡ eqb y 1 → x ≡ y
same_odd x y (inl p) (inl q) e = p ∙ sym q
same_odd x y (inl p) (inr q) e = let z : false ≡ true = rw (p, q) at e in cc
same_odd x y (inr p) (inl q) e = let z : true ≡ false = rw (p, q) at e in cc
same_odd x y (inr p) (inr q) e = p ∙ sym q

-- two numbers of k digits with the same digits are equal
digits_ext : (k a b : ℕ) → a < 2 ^ k → b < 2 ^ k → ((i : ℕ) → digit i a ≡ digit i b) → a ≡ b
unfolding digit
digits_ext zero a b ha hb e = omega arith
digits_ext (suc k) a b ha hb e =
    let h : a / 2 ≡ b / 2 = digits_ext k (a / 2) (b / 2) (omega (arith, pow-suc 2 k)) (omega (arith, pow-suc 2 k)) (λ i. e (suc i)) in
    let o : a % 2 ≡ b % 2 = same_odd (a % 2) (b % 2) (two (a % 2) (mod-lt a (lit< tt))) (two (b % 2) (mod-lt b (lit< tt))) (e zero) in
    omega arith

below_pow : (n : ℕ) → n < 2 ^ n
below_pow zero = lit< tt
below_pow (suc n) = omega (arith, below_pow n, pow-suc 2 n)

-- a number is known by its digits
pub known_by_digits : (a b : ℕ) → ((i : ℕ) → digit i a ≡ digit i b) → a ≡ b
known_by_digits a b e = digits_ext (a + b) a b (omega (arith, below_pow (a + b))) (omega (arith, below_pow (a + b))) e
