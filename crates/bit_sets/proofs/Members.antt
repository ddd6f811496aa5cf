-- Sets in words: each word of a new set, one number more, the empty set. Of any number of words. Assumes nothing.
use Prim.Native.Nat.{ℕ, zero, ◌+◌, ◌-◌, ◌*◌, ◌/◌, ◌%◌, ◌^◌, ◌<◌, ◌≤◌}
use native.Mathlib.Decide.{ℕ_discrete, dec_lt}
use native.Mathlib.Omega.{arith}
use mathlib.Core.Path.{◌≡◌, refl, sym, ap, ap₂, ◌∙◌}
use mathlib.Core.List.{List, []}
use mathlib.Core.Bool.{Bool, true, false, not, ◌&&◌, ◌||◌, cond, or_comm}
use lib.Dec.{eqb}
use lib.ListN.{length, get_or, set, length-set, replicate, length-replicate, get_or-replicate, get_or-eq_default}
use lib.Seq.{get_or-set_same, get_or-set_other}
use lib.Pow.{shl_exact}
use lib.Bits.{bit_and, bit_or, bit_xor}
use borrow.Author.Tests.{eq-eqb, ne_eqb}
use Rattle.bit_sets.specs.Inner.{word_bit, member}
use Rattle.bit_sets.proofs.BitLaws.{bit_and_lem, bit_or_lem, bit_xor_lem, bit_not_lem, bit_pow, bit_zero}

-- ---- a set whose words an operation makes of those of two sets, word for word
pub record WordByWord (op : ℕ → ℕ → ℕ) (a b r : List ℕ) (n : ℕ) : Type 0 where
  pub first : length a ≡ n
  pub second : length b ≡ n
  pub size : length r ≡ n
  pub each : (w : ℕ) → w < n → get_or r w 0 ≡ op (get_or a w 0) (get_or b w 0)

-- the words below w are such, the others are still those of the first set
pub record WordsBelow (op : ℕ → ℕ → ℕ) (a b r : List ℕ) (n w : ℕ) : Type 0 where
  pub first : length a ≡ n
  pub second : length b ≡ n
  pub size : length r ≡ n
  pub each : (v : ℕ) → v < w → get_or r v 0 ≡ op (get_or a v 0) (get_or b v 0)
  pub rest : (v : ℕ) → w ≤ v → get_or r v 0 ≡ get_or a v 0

module _ (op : ℕ → ℕ → ℕ) (a b : List ℕ) (n : ℕ) where
  pub no_words : length a ≡ n → length b ≡ n → WordsBelow op a b a n 0
  no_words f s = record { first = f; second = s; size = f; each = λ v l. absurd (omega arith); rest = λ v l. refl }

  module _ (r : List ℕ) (w : ℕ) (h : WordsBelow op a b r n w) where
    pub word_more : w < n → WordsBelow op a b (set r w (op (get_or r w 0) (get_or b w 0))) n (w + 1)
    word_more l = record {
      first = h.first;
      second = h.second;
      size = rw length-set h.size;
      each = λ v m. elim (ℕ_discrete v w) [
        | yes e ↦ rw (e, get_or-set_same r w (op (get_or r w 0) (get_or b w 0)) 0 (omega (arith, h.size)), h.rest w (omega arith)) refl
        | no ne ↦ get_or-set_other r w v (op (get_or r w 0) (get_or b w 0)) 0 ne ∙ h.each v (omega (arith, ne))
      ];
      rest = λ v m. get_or-set_other r w v (op (get_or r w 0) (get_or b w 0)) 0 (λ e. omega (arith, e)) ∙ h.rest v (omega arith);
    }

    pub all_words : n ≤ w → WordByWord op a b r n
    all_words l = record { first = h.first; second = h.second; size = h.size; each = λ v m. h.each v (omega arith) }

past : (a : List ℕ) (n k : ℕ) → length a ≡ n → n ≤ k / 64 → member a k ≡ false
unfolding member
past a n k e l = rw (get_or-eq_default a 0 {n = k / 64} (omega arith)) (bit_zero (k % 64))

module _ (op : ℕ → ℕ → ℕ) (test : Bool → Bool → Bool) (zeros : test false false ≡ false) (b : List ℕ)
    (bit : (x w k : ℕ) → k < 64 → word_bit (op x (get_or b w 0)) k ≡ test (word_bit x k) (word_bit (get_or b w 0) k)) (a r : List ℕ) (n : ℕ) (h : WordByWord op a b r n) where
  each_word : (k : ℕ) → member r k ≡ test (member a k) (member b k)
  unfolding member
  each_word k = elim (dec_lt (k / 64) n) [
    | yes l ↦ rw (h.each (k / 64) l) (bit (get_or a (k / 64) 0) (k / 64) (k % 64) (omega arith))
    | no m ↦ past r n k h.size (omega arith) ∙ sym zeros ∙ sym (ap₂ test (past a n k h.first (omega arith)) (past b n k h.second (omega arith)))
  ]

pub or_member : (a b r : List ℕ) (n : ℕ) → WordByWord bit_or a b r n → (k : ℕ) → member r k ≡ (member a k || member b k)
or_member a b = each_word bit_or (λ p q. p || q) refl b (λ x w k l. bit_or_lem x (get_or b w 0) k) a

pub and_member : (a b r : List ℕ) (n : ℕ) → WordByWord bit_and a b r n → (k : ℕ) → member r k ≡ (member a k && member b k)
and_member a b = each_word bit_and (λ p q. p && q) refl b (λ x w k l. bit_and_lem x (get_or b w 0) k) a

pub without_member : (a b r : List ℕ) (n : ℕ) → ((w : ℕ) → get_or b w 0 < 2 ^ 64) → WordByWord (λ (x y : ℕ). bit_and x (18446744073709551615 - y)) a b r n
    → (k : ℕ) → member r k ≡ (member a k && not (member b k))
without_member a b r n l =
    each_word (λ (x y : ℕ). bit_and x (18446744073709551615 - y)) (λ p q. p && not q) refl b
    (λ x w k h. bit_and_lem x (18446744073709551615 - get_or b w 0) k ∙ ap (λ q. word_bit x k && q) (bit_not_lem 64 (get_or b w 0) k (l w) h))
    a r n

pub xor_member : (a b r : List ℕ) (n : ℕ) → WordByWord bit_xor a b r n → (k : ℕ) → member r k ≡ cond (member a k) (not (member b k)) (member b k)
xor_member a b = each_word bit_xor (λ p q. cond p (not q) q) refl b (λ x w k l. bit_xor_lem x (get_or b w 0) k) a

-- a set less what it shares with another
less : (p q : Bool) → cond p (not (p && q)) (p && q) ≡ (p && not q)
less true q = refl
less false q = refl

pub without_shared : (a b s r : List ℕ) (n : ℕ) → ((k : ℕ) → member s k ≡ (member a k && member b k)) → WordByWord bit_xor a s r n
    → (k : ℕ) → member r k ≡ (member a k && not (member b k))
without_shared a b s r n h x k =
    xor_member a s r n x k ∙ ap (λ (q : Bool). cond (member a k) (not q) q) (h k) ∙ less (member a k) (member b k)

-- ---- one number more
eqb_split : (j k : ℕ) → k / 64 ≡ j / 64 → eqb (k % 64) (j % 64) ≡ eqb k j
eqb_split j k e = elim (ℕ_discrete k j) [ yes p ↦ eq-eqb (k % 64) (j % 64) (ap (λ (n : ℕ). n % 64) p) ∙ sym (eq-eqb k j p) | no ne ↦ ne_eqb (k % 64) (j % 64) (λ q. ne (omega arith)) ∙ sym (ne_eqb k j ne) ]

pub with_member : (words : List ℕ) (j : ℕ) → j / 64 < length words → (k : ℕ)
    → member (set words (j / 64) (bit_or (get_or words (j / 64) 0) (1 * 2 ^ (j % 64) % 2 ^ 64))) k ≡ (eqb k j || member words k)
unfolding member
with_member words j l k =
    elim (ℕ_discrete (k / 64) (j / 64)) [
      | yes e ↦
          ap (λ (w : ℕ). word_bit (get_or (set words (j / 64) v) w 0) (k % 64)) e
          ∙ ap (λ (x : ℕ). word_bit x (k % 64)) (get_or-set_same words (j / 64) v 0 l ∙ ap (λ (x : ℕ). bit_or (get_or words (j / 64) 0) x) one)
          ∙ bit_or_lem (get_or words (j / 64) 0) (2 ^ (j % 64)) (k % 64)
          ∙ or_comm (word_bit (get_or words (j / 64) 0) (k % 64)) (word_bit (2 ^ (j % 64)) (k % 64))
          ∙ ap (λ (t : Bool). t || word_bit (get_or words (j / 64) 0) (k % 64)) (bit_pow (j % 64) (k % 64) ∙ eqb_split j k e)
          ∙ ap (λ (w : ℕ). eqb k j || word_bit (get_or words w 0) (k % 64)) (sym e)
      | no ne ↦
          ap (λ (x : ℕ). word_bit x (k % 64)) (get_or-set_other words (j / 64) (k / 64) v 0 ne)
          ∙ ap (λ (t : Bool). t || word_bit (get_or words (k / 64) 0) (k % 64)) (sym (ne_eqb k j (λ p. ne (ap (λ (n : ℕ). n / 64) p))))
    ]
  where
    v : ℕ
    v = bit_or (get_or words (j / 64) 0) (1 * 2 ^ (j % 64) % 2 ^ 64)

    one : 1 * 2 ^ (j % 64) % 2 ^ 64 ≡ 2 ^ (j % 64)
    one = shl_exact {a = 1} 1 (j % 64) 64 (omega arith) (omega arith) ∙ omega arith

-- ---- the empty set, and no words at all
pub member_nil : (k : ℕ) → member [] k ≡ false
unfolding member
member_nil k = bit_zero (k % 64)

pub member_none : (n k : ℕ) → member (replicate n 0) k ≡ false
unfolding member
member_none n k = ap (λ (x : ℕ). word_bit x (k % 64)) (zero_at (dec_lt (k / 64) n)) ∙ bit_zero (k % 64)
  where
    zero_at : Dec (k / 64 < n) → get_or (replicate n zero) (k / 64) 0 ≡ zero
    zero_at (yes l) = get_or-replicate n (k / 64) zero 0 l
    zero_at (no m) = get_or-eq_default (replicate n zero) 0 {n = k / 64} (omega (arith, length-replicate n zero))

-- ---- the numbers of one word
pub member_in : (words : List ℕ) (w k : ℕ) → k / 64 ≡ w → member words k ≡ word_bit (get_or words w 0) (k % 64)
unfolding member
member_in words w k e = ap (λ (v : ℕ). word_bit (get_or words v 0) (k % 64)) e

-- there are no numbers past the words
pub member_past : (words : List ℕ) (k : ℕ) → 64 * length words ≤ k → member words k ≡ false
unfolding member
member_past words k l = ap (λ (x : ℕ). word_bit x (k % 64)) (get_or-eq_default words 0 {n = k / 64} (omega arith)) ∙ bit_zero (k % 64)
