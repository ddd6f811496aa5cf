-- Laws of the texts of numbers.
use Prim.Native.Nat.{ℕ, zero, suc, ◌+◌, ◌*◌, ◌/◌, ◌%◌, ◌^◌, ◌≤◌, ◌<◌}
use mathlib.Core.List.{List, [], ◌∷◌, ◌++◌}
use mathlib.Core.Path.{◌≡◌, refl, sym, ◌∙◌, ap}
use native.Mathlib.Decide.{dec_lt}
use native.Mathlib.Nat.{pow-suc}
use native.Mathlib.Numerals.{add-one}
use native.Mathlib.Omega.{arith}
use borrow.Author.Tests.{lt-ltb, le-ltb}
use lib.ListN.{length, length-append}
use Rattle.text_numbers.specs.Print.{decimal, print_number, hexadecimal, print_hex}

-- ---- decimal
pub decimal_small : (k n : ℕ) → n < 10 → decimal (suc k) n ≡ (48 + n) ∷ []
unfolding decimal
decimal_small k n h = rw (lt-ltb _ _ h)

pub decimal_big : (k n : ℕ) → 10 ≤ n → decimal (suc k) n ≡ decimal k (n / 10) ++ ((48 + n % 10) ∷ [])
unfolding decimal
decimal_big k n h = rw (le-ltb _ _ h)

-- a digit more may be allowed for
decimal_more : (k n : ℕ) → n < 10 ^ suc k → decimal (suc k) n ≡ decimal (suc (suc k)) n
decimal_more zero n h = decimal_small 0 n h ∙ sym (decimal_small 1 n h)
decimal_more (suc k) n h =
    elim (dec_lt n 10) [
      | yes l ↦ decimal_small (suc k) n l ∙ sym (decimal_small (suc (suc k)) n l)
      | no l ↦ let p : n < 10 ^ suc k * 10 = rw pow-suc at h in
          decimal_big (suc k) n (omega arith)
          ∙ ap (λ (w : List ℕ). w ++ ((48 + n % 10) ∷ [])) (decimal_more k (n / 10) (omega arith))
          ∙ sym (decimal_big (suc (suc k)) n (omega arith))
    ]

pub print_small : (n : ℕ) → n < 10 → print_number n ≡ (48 + n) ∷ []
unfolding print_number
print_small n h = decimal_small 19 n h

pub print_big : (n : ℕ) → 10 ≤ n → n < 10 ^ 20 → print_number n ≡ print_number (n / 10) ++ ((48 + n % 10) ∷ [])
unfolding print_number
print_big n h l = decimal_big 19 n h ∙ rw (decimal_more 18 (n / 10) (omega arith))

decimal_length : (k n : ℕ) → length (decimal k n) ≤ k
unfolding decimal
decimal_length zero n = omega arith
decimal_length (suc k) n =
    elim (dec_lt n 10) [
      | yes l ↦ rw (lt-ltb _ _ l) (omega arith)
      | no l ↦ let g : 10 ≤ n = omega arith in rw (le-ltb _ _ g, length-append) (omega (arith, decimal_length k (n / 10)))
    ]

pub print_length : (n : ℕ) → length (print_number n) ≤ 20
unfolding print_number
print_length n = decimal_length 20 n

-- a number below 10 ^ k has at most k digits
decimal_short : (j k n : ℕ) → n < 10 ^ suc k → length (decimal j n) ≤ suc k
unfolding decimal
decimal_short zero k n h = omega arith
decimal_short (suc j) zero n h = rw (lt-ltb n 10 h) (omega arith)
decimal_short (suc j) (suc k) n h =
    elim (dec_lt n 10) [
      | yes l ↦ rw (lt-ltb _ _ l) (omega arith)
      | no l ↦ let g : 10 ≤ n = omega arith in
          let p : n < 10 ^ suc k * 10 = rw pow-suc at h in
          rw (le-ltb _ _ g, length-append) (omega (arith, decimal_short j k (n / 10) (omega arith)))
    ]

pub print_short : (k n : ℕ) → n < 10 ^ suc k → length (print_number n) ≤ suc k
unfolding print_number
print_short k n h = decimal_short 20 k n h

-- ---- hexadecimal
pub hexadecimal_length : (k n : ℕ) → length (hexadecimal k n) ≡ k
unfolding hexadecimal
hexadecimal_length zero n = refl
hexadecimal_length (suc k) n = rw (length-append, hexadecimal_length k (n / 16), add-one)

pub hex_length : (n : ℕ) → length (print_hex n) ≡ 8
unfolding print_hex
hex_length n = hexadecimal_length 8 n
