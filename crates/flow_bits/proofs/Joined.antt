-- Words side by side: what is compared of two joined words is compared of their parts. Assumes nothing.
use mathlib.Core.Path.{◌≡◌, sym, ap, ap₂, ◌∙◌}
use mathlib.Core.Bool.{◌&&◌}
use Prim.Native.Nat.{ℕ, suc, ◌+◌, ◌*◌, ◌/◌, ◌%◌, ◌^◌, ◌≤◌, ◌<◌}
use native.Mathlib.Nat.{mul-le-mul_right, suc-mul}
use native.Mathlib.Omega.{arith}
use lib.Dec.{eqb}
use lib.Pow.{high, low, pow-add, pow_mono, shl_exact}
use lib.Bits.{bit_and, and_block, and_lt}
use borrow.Author.Tests.{eq-eqb, eqb-true}
use Rattle.basics.proofs.Booleans.{both_ways, and_intro, and_left, and_right, and_swap}
use Rattle.flow_bits.specs.Types.{Word}
use Rattle.flow_bits.specs.Inner.{word_overlaps, word_within, word_same, joined, InBits}

-- the k bits r below the bits a
block_eqb : (k a b r s : ℕ) → r < 2 ^ k → s < 2 ^ k → eqb (a * 2 ^ k + r) (b * 2 ^ k + s) ≡ (eqb a b && eqb r s)
block_eqb k a b r s h i = both_ways (eqb (a * 2 ^ k + r) (b * 2 ^ k + s)) (eqb a b && eqb r s)
    (λ e. let q = eqb-true (a * 2 ^ k + r) (b * 2 ^ k + s) e in and_intro
    (eq-eqb a b (sym (high a k h) ∙ ap (λ (x : ℕ). x / 2 ^ k) q ∙ high b k i))
    (eq-eqb r s (sym (low a k h) ∙ ap (λ (x : ℕ). x % 2 ^ k) q ∙ low b k i)))
    (λ e. eq-eqb (a * 2 ^ k + r) (b * 2 ^ k + s) (ap₂ (λ (x y : ℕ). x * 2 ^ k + y) (eqb-true a b (and_left (eqb a b) (eqb r s) e)) (eqb-true r s (and_right (eqb a b) (eqb r s) e))))

block_lt : (k a r : ℕ) → a < 2 ^ k → r < 2 ^ k → a * 2 ^ k + r < 2 ^ (k + k)
block_lt k a r h i =
    let p : 2 ^ (k + k) ≡ 2 ^ k * 2 ^ k = pow-add 2 k k in
    let q : suc a * 2 ^ k ≤ 2 ^ k * 2 ^ k = mul-le-mul_right (2 ^ k) h in
    let s : suc a * 2 ^ k ≡ a * 2 ^ k + 2 ^ k = suc-mul a (2 ^ k) in
    omega arith

module _ (k : ℕ) (a b c d : Word) (h : InBits k c) (i : InBits k d) where
  pub joined_overlaps : word_overlaps (joined k a c) (joined k b d) ≡ (word_overlaps a b && word_overlaps c d)
  joined_overlaps =
      let m = bit_and a.mask b.mask in
      let n = bit_and c.mask d.mask in
      let l : n < 2 ^ k = and_lt k c.mask d.mask h.1 i.1 in
      rw (and_block k a.mask b.mask c.mask d.mask h.1 i.1, and_block k a.value m c.value n h.0 l, and_block k b.value m d.value n i.0 l)
      (block_eqb k (bit_and a.value m) (bit_and b.value m) (bit_and c.value n) (bit_and d.value n) (and_lt k c.value n h.0 l) (and_lt k d.value n i.0 l))

  pub joined_within : word_within (joined k a c) (joined k b d) ≡ (word_within a b && word_within c d)
  joined_within =
      let A = eqb (bit_and a.mask b.mask) b.mask in
      let B = eqb (bit_and a.value b.mask) (bit_and b.value b.mask) in
      let C = eqb (bit_and c.mask d.mask) d.mask in
      let D = eqb (bit_and c.value d.mask) (bit_and d.value d.mask) in
      rw (and_block k a.mask b.mask c.mask d.mask h.1 i.1, and_block k a.value b.mask c.value d.mask h.0 i.1, and_block k b.value b.mask d.value d.mask i.0 i.1)
      (ap₂ ◌&&◌ (block_eqb k (bit_and a.mask b.mask) b.mask (bit_and c.mask d.mask) d.mask (and_lt k c.mask d.mask h.1 i.1) i.1)
      (block_eqb k (bit_and a.value b.mask) (bit_and b.value b.mask) (bit_and c.value d.mask) (bit_and d.value d.mask) (and_lt k c.value d.mask h.0 i.1) (and_lt k d.value d.mask i.0 i.1))
      ∙ and_swap A C B D)

  pub joined_same : word_same (joined k a c) (joined k b d) ≡ (word_same a b && word_same c d)
  joined_same = ap₂ ◌&&◌ (block_eqb k a.value b.value c.value d.value h.0 i.0) (block_eqb k a.mask b.mask c.mask d.mask h.1 i.1)
      ∙ and_swap (eqb a.value b.value) (eqb c.value d.value) (eqb a.mask b.mask) (eqb c.mask d.mask)

-- two words of k bits side by side have twice as many
pub joined_in_bits : (k : ℕ) (a b : Word) → InBits k a → InBits k b → InBits (k + k) (joined k a b)
joined_in_bits k a b h i = (block_lt k a.value b.value h.0 i.0, block_lt k a.mask b.mask h.1 i.1)

-- where that is at most 64, neither the shift nor the sum loses a bit
pub side_lt : (k a b : ℕ) → k ≤ 32 → a < 2 ^ k → b < 2 ^ k → a * 2 ^ k % 2 ^ 64 + b < 2 ^ 64
side_lt k a b l h i = omega (arith, shl_exact k k 64 h (omega arith), block_lt k a b h i, pow_mono {i = k + k} {j = 64} (omega arith))

pub beside_is : (k : ℕ) (a b : Word) → k ≤ 32 → InBits k a → ◌≡◌ {A = Word} (record { value = a.value * 2 ^ k % 2 ^ 64 + b.value; mask = a.mask * 2 ^ k % 2 ^ 64 + b.mask }) (joined k a b)
beside_is k a b l h =
    let v = shl_exact k k 64 h.0 (omega arith) in
    let m = shl_exact k k 64 h.1 (omega arith) in
    λ i. record { value = v i + b.value; mask = m i + b.mask }
