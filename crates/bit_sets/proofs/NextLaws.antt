-- The lowest 1 of a word from a place on, and the lowest member of a set from a number on. Assumes nothing.
use Prim.Native.Nat.{ℕ, zero, suc, ◌+◌, ◌-◌, ◌*◌, ◌/◌, ◌%◌, ◌^◌, ◌<◌, ◌≤◌}
use native.Mathlib.Nat.{pow-suc, lt_of_le_of_lt}
use native.Mathlib.Decide.{dec_lt}
use native.Mathlib.Omega.{arith}
use mathlib.Core.Path.{◌≡◌, refl, sym, ap, ◌∙◌}
use mathlib.Core.List.{List}
use mathlib.Core.Bool.{true, false, true≢false}
use lib.ListN.{length, get_or}
use lib.Pow.{shr_le}
use lib.Count.{count_trailing_zeros, under}
use borrow.Author.Tests.{eq-eqb, ne_eqb}
use Rattle.bit_sets.specs.Inner.{word_bit, member, NextBit, NextFrom}
use Rattle.std.specs.Prelude.{Some, None}
use Rattle.bit_sets.proofs.BitLaws.{bit_first, bit_half, bit_down, bit_zero, bit_past}
use Rattle.bit_sets.proofs.Members.{member_in, member_past}

-- ---- the zeros below the lowest 1
-- a word that is not 0 has a 1 there
lowest_one : (d x : ℕ) → 0 < x → x < 2 ^ d → word_bit x (count_trailing_zeros d x) ≡ true
unfolding count_trailing_zeros
lowest_one zero x p l = absurd (omega arith)
lowest_one (suc d) x p l = go (x % 2) refl (λ q. lowest_one d (x / 2) q (omega (arith, pow-suc 2 d)))
  where
    go : (r : ℕ) → x % 2 ≡ r → (0 < x / 2 → word_bit (x / 2) (count_trailing_zeros d (x / 2)) ≡ true) → word_bit x (under r (count_trailing_zeros d (x / 2))) ≡ true
    go zero e rest = bit_half x (count_trailing_zeros d (x / 2)) ∙ rest (omega arith)
    go (suc r) e rest = bit_first x ∙ eq-eqb (x % 2) 1 (omega arith)

-- and none below
zeros_below : (d x k : ℕ) → k < count_trailing_zeros d x → word_bit x k ≡ false
unfolding count_trailing_zeros
zeros_below zero x k l = absurd (omega arith)
zeros_below (suc d) x k l = go (x % 2) k refl l (zeros_below d (x / 2))
  where
    go : (r k : ℕ) → x % 2 ≡ r → k < under r (count_trailing_zeros d (x / 2)) → ((j : ℕ) → j < count_trailing_zeros d (x / 2) → word_bit (x / 2) j ≡ false) → word_bit x k ≡ false
    go zero zero e l rest = bit_first x ∙ ne_eqb (x % 2) 1 (λ f. omega arith)
    go zero (suc k) e l rest = bit_half x k ∙ rest k (omega arith)
    go (suc r) k e l rest = absurd (omega arith)

-- ---- a word
bit_from : (x from k : ℕ) → from ≤ k → word_bit x k ≡ word_bit (x / 2 ^ from) (k - from)
bit_from x from k l = ap (word_bit x) (omega arith) ∙ sym (bit_down x from (k - from))

below_length : (x m k : ℕ) → x < 2 ^ m → word_bit x k ≡ true → k < m
below_length x m k l e = elim (dec_lt k m) [ yes h ↦ h | no h ↦ absurd (true≢false (sym e ∙ bit_past x m k l (omega arith))) ]

pub no_bit : (x from : ℕ) → x / 2 ^ from ≡ 0 → NextBit x from None
no_bit x from e k s = bit_from x from k s ∙ ap (λ (y : ℕ). word_bit y (k - from)) e ∙ bit_zero (k - from)

pub some_bit : (x from : ℕ) → x < 2 ^ 64 → (x / 2 ^ from ≡ 0 → ⊥) → NextBit x from (Some (from + count_trailing_zeros 64 (x / 2 ^ from)))
some_bit x from l n =
    let rest : ℕ = x / 2 ^ from in
    let one : word_bit x (from + count_trailing_zeros 64 rest) ≡ true = sym (bit_down x from (count_trailing_zeros 64 rest)) ∙ lowest_one 64 rest (omega arith) (lt_of_le_of_lt (shr_le x from) l) in
    record {
      after = omega arith;
      inside = below_length x 64 (from + count_trailing_zeros 64 rest) l one;
      here = one;
      skipped = λ k s h. bit_from x from k s ∙ zeros_below 64 rest (k - from) (omega arith);
    }

-- ---- a set
-- no member from a number on before a place of word w; the words before are passed over
pub record Passed (words : List ℕ) (from w place : ℕ) : Type 0 where
  pub start : from ≤ 64 * w + place
  pub inside : place < 64
  pub clear : (k : ℕ) → from ≤ k → k < 64 * w + place → member words k ≡ false

pub passed_none : (words : List ℕ) (from : ℕ) → Passed words from (from / 64) (from % 64)
passed_none words from = record { start = omega arith; inside = omega arith; clear = λ k s h. absurd (omega arith) }

module _ (words : List ℕ) (from w place : ℕ) (p : Passed words from w place) where
  -- the numbers of word w below one that has no bit set before it
  more_passed : (r : ℕ) → r ≤ 64 → ((k : ℕ) → place ≤ k → k < r → word_bit (get_or words w 0) k ≡ false) → (k : ℕ) → from ≤ k → k < 64 * w + r → member words k ≡ false
  more_passed r l b k s h =
      elim (dec_lt k (64 * w + place)) [
        | yes e ↦ p.clear k s e
        | no e ↦ member_in words w k (omega arith) ∙ b (k % 64) (omega arith) (omega arith)
      ]

  pub passed_word : NextBit (get_or words w 0) place None → Passed words from (w + 1) 0
  passed_word b = record { start = omega (arith, p.start, p.inside); inside = omega arith; clear = λ k s h. more_passed 64 (omega arith) (λ k l m. b k l) k s (omega arith) }

  pub found : w < length words → (r : ℕ) → NextBit (get_or words w 0) place (Some r) → NextFrom words from (Some (64 * w + r))
  found l r b = record {
    after = omega (arith, p.start, b.after);
    inside = omega (arith, b.inside);
    here = member_in words w (64 * w + r) (omega (arith, b.inside)) ∙ ap (word_bit (get_or words w 0)) (omega (arith, b.inside)) ∙ b.here;
    skipped = more_passed r (omega (arith, b.inside)) b.skipped;
  }

  pub none_left : length words ≤ w → NextFrom words from None
  none_left l k s = elim (dec_lt k (64 * w + place)) [ yes e ↦ p.clear k s e | no e ↦ member_past words k (omega arith) ]
