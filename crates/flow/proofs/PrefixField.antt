-- A prefix is a field: its masks are nested, so of two prefixes that overlap the longer lies within the other. And what the
-- masks are, bit by bit, and what they stand for: the leading bits of an address. Assumes nothing.
use mathlib.Core.Path.{◌≡◌, refl, sym, ap, ap₂, ◌∙◌, subst}
use mathlib.Core.Logic.{◌↔◌}
use mathlib.Core.Bool.{Bool, true, false, ◌&&◌, cond}
use Prim.Native.Nat.{ℕ, ◌+◌, ◌*◌, ◌/◌, ◌%◌, ◌-◌, ◌^◌, ◌≤◌, ◌<◌, min}
use native.Mathlib.Nat.{div-eq_of_lt, lt_of_lt_of_le, mul_assoc}
use native.Mathlib.Omega.{arith}
use lib.Dec.{eqb, leb, ltb}
use lib.Pow.{pow_pos, pow_mono, pow-lt, pow-sub-lt, pow-add, high_ones, high, shr_mod, shl-shr, split as pow-split}
use lib.Bits.{bit_and, and_high, and_comm}
use borrow.Author.Tests.{eq-eqb, ne_eqb, eqb-true, leb-true, leb-false, ltb-true, ltb-false}
use Rattle.flow.specs.Types.{Prefix}
use Rattle.flow.specs.Matches.{masked_fits, mask_of, masked_of, prefix_fits, prefix_overlaps, prefix_within, prefix_clear, PrefixInRange}
use Rattle.flow.specs.Inner.{masked_meet, same_leading, prefix_meet}
use Rattle.basics.proofs.Booleans.{split, both_ways, and_intro, and_absorb, and_absorb_right}
use Rattle.flow.proofs.Field.{IsField, along}
use Rattle.flow.proofs.MaskedField.{MaskedInRange, masked_field}

-- the mask of length l leaves the bits above the 32 - l low ones
mask_is : (l : ℕ) → mask_of l ≡ 2 ^ ((32 - (32 - l)) + (32 - l)) - 2 ^ (32 - l)
unfolding mask_of
mask_is l = let e : 32 ≡ (32 - (32 - l)) + (32 - l) = omega arith in ap (λ (n : ℕ). 2 ^ n - 2 ^ (32 - l)) e

leaves : (a l : ℕ) → a < 2 ^ 32 → bit_and a (mask_of l) ≡ a / 2 ^ (32 - l) * 2 ^ (32 - l)
leaves a l h =
    let s : ℕ = 32 - l in
    let e : 32 ≡ (32 - s) + s = omega arith in
    let k : a < 2 ^ ((32 - s) + s) = subst (λ (n : ℕ). a < 2 ^ n) e h in
    ap (bit_and a) (mask_is l) ∙ and_high a (32 - s) s ∙ ap (λ q. q * 2 ^ s) (shr_mod (32 - s) s k)

mask_lt : (l : ℕ) → mask_of l < 2 ^ 32
unfolding mask_of
mask_lt l = pow-sub-lt 32 (pow_pos (32 - l))

mask_ones : (l : ℕ) → mask_of l ≡ (2 ^ (32 - (32 - l)) - 1) * 2 ^ (32 - l)
mask_ones l = mask_is l ∙ high_ones (32 - (32 - l)) (32 - l)

-- above its low i bits a mask is all ones, where the length reaches down to bit i
mask_high : (l i : ℕ) → 32 - l ≤ i → i ≤ 32 → mask_of l / 2 ^ i ≡ 2 ^ (32 - i) - 1
unfolding mask_of
mask_high l i h k =
    let s : ℕ = 32 - l in
    let j : ℕ = 32 - i in
    let e : 32 ≡ j + i = omega arith in
    let a : 2 ^ s ≤ 2 ^ i = pow_mono {i = s} {j = i} h in
    let b : 0 < 2 ^ s = pow_pos s in
    let d : 2 ^ i ≤ 2 ^ 32 = pow_mono {i = i} {j = 32} k in
    let f : 2 ^ 32 - 2 ^ i ≡ (2 ^ j - 1) * 2 ^ i = ap (λ (n : ℕ). 2 ^ n - 2 ^ i) e ∙ high_ones j i in
    let g : mask_of l ≡ (2 ^ j - 1) * 2 ^ i + (2 ^ i - 2 ^ s) = omega arith in
    ap (λ (q : ℕ). q / 2 ^ i) g ∙ high (2 ^ j - 1) i {lo = 2 ^ i - 2 ^ s} (omega arith)

-- a shorter prefix's mask is a part of a longer one's
pub nested : (k l : ℕ) → 32 - k ≤ 32 - l → bit_and (mask_of k) (mask_of l) ≡ mask_of l
nested k l h = leaves (mask_of k) l (mask_lt k) ∙ ap (λ (q : ℕ). q * 2 ^ (32 - l)) (mask_high k (32 - l) h (omega arith)) ∙ sym (mask_ones l)

-- of two masks the shorter length's is the one that they share
shared_mask : (k l : ℕ) → 32 - l ≤ 32 - k → bit_and (mask_of k) (mask_of l) ≡ mask_of k
shared_mask k l h = and_comm (mask_of k) (mask_of l) ∙ nested l k h

masks_differ : (k l : ℕ) → k < l → k < 32 → mask_of k ≡ mask_of l → ⊥
unfolding mask_of
masks_differ k l h i e =
    let a : 2 ^ (32 - l) < 2 ^ (32 - k) = pow-lt {i = 32 - l} {j = 32 - k} (omega arith) in
    let b : 2 ^ (32 - k) ≤ 2 ^ 32 = pow_mono {i = 32 - k} {j = 32} (omega arith) in
    omega arith

-- and a longer length's is no part of it
not_nested : (k l : ℕ) → k < l → k < 32 → eqb (bit_and (mask_of k) (mask_of l)) (mask_of l) ≡ false
not_nested k l h i = ne_eqb _ _ (λ g. masks_differ k l h i (sym (shared_mask k l (omega arith)) ∙ g))

-- ---- overlap and within, by the bits of one length
both_masks : (k l : ℕ) → bit_and (mask_of k) (mask_of l) ≡ mask_of (min k l)
both_masks k l = split (leb l k)
    (λ e. let i = leb-true l k e in let m : l ≡ min k l = omega arith in nested k l (omega arith) ∙ ap mask_of m)
    (λ e. let i = leb-false l k e in let m : k ≡ min k l = omega arith in shared_mask k l (omega arith) ∙ ap mask_of m)

pub overlaps_shorter : (p q : Prefix) → prefix_overlaps p q ≡ same_leading p.value q.value (min p.length q.length)
overlaps_shorter p q = rw (both_masks p.length q.length)

-- one is the shorter, where a length over 32 counts as 32
pub within_shorter : (p q : Prefix) → p.length < min q.length 32 → prefix_within p q ≡ false
within_shorter p q h = rw (not_nested p.length q.length (omega arith) (omega arith))

pub within_longer : (p q : Prefix) → min q.length 32 ≤ p.length → prefix_within p q ≡ same_leading p.value q.value q.length
within_longer p q h = rw (eq-eqb (bit_and (mask_of p.length) (mask_of q.length)) (mask_of q.length) (nested p.length q.length (omega arith)))

in_range_lem : (p : Prefix) → PrefixInRange p → MaskedInRange 32 (masked_of p)
in_range_lem p h = record { value = h.value; mask = mask_lt p.length; clear = h.clear }

-- of two prefixes that overlap, the longer lies within the other
longer_within : (p q : Prefix) → q.length ≤ p.length → prefix_overlaps p q ≡ true → prefix_within p q ≡ true
longer_within p q h e =
    let n = nested p.length q.length (omega arith) in
    and_intro (eq-eqb (bit_and (mask_of p.length) (mask_of q.length)) (mask_of q.length) n) (rw n at e)

overlap_turned : (p q : Prefix) → prefix_overlaps p q ≡ true → prefix_overlaps q p ≡ true
overlap_turned p q e =
    let m = and_comm (mask_of q.length) (mask_of p.length) in
    rw m (eq-eqb _ _ (sym (eqb-true (bit_and p.value (bit_and (mask_of p.length) (mask_of q.length))) (bit_and q.value (bit_and (mask_of p.length) (mask_of q.length))) e)))

meet_is : (p q : Prefix) → prefix_overlaps p q ≡ true → (x : ℕ) → prefix_fits (prefix_meet p q) x ≡ masked_fits (masked_meet (masked_of p) (masked_of q)) x
meet_is p q e x = split (leb q.length p.length)
    (λ u. rw u (and_absorb (prefix_fits p x) (prefix_fits q x) ((masked_field 32).within_fits (masked_of p) (masked_of q) (longer_within p q (leb-true q.length p.length u) e) x)
    ∙ sym ((masked_field 32).meet_fits (masked_of p) (masked_of q) e x)))
    (λ u. let l = leb-false q.length p.length u in
    rw u (and_absorb_right (prefix_fits p x) (prefix_fits q x) ((masked_field 32).within_fits (masked_of q) (masked_of p) (longer_within q p (omega arith) (overlap_turned p q e)) x)
    ∙ sym ((masked_field 32).meet_fits (masked_of p) (masked_of q) e x)))

pub prefix_field : IsField PrefixInRange (λ x. x < 2 ^ 32) prefix_fits prefix_within prefix_overlaps prefix_meet (λ p. p.value)
prefix_field = along (masked_field 32) PrefixInRange (λ x. x < 2 ^ 32) masked_of (λ x. x) (λ x. x) (λ x. refl) in_range_lem (λ x h. h) prefix_meet meet_is (λ p q h k. go p q h k (leb q.length p.length))
  where
    go : (p q : Prefix) → PrefixInRange p → PrefixInRange q → (b : Bool) → PrefixInRange (cond b p q)
    go p q h k true = h
    go p q h k false = k

-- ---- what a mask is, bit by bit
-- a bit that the length reaches
bit_reached : (l i : ℕ) → 32 - l ≤ i → i < 32 → mask_of l / 2 ^ i % 2 ≡ 1
bit_reached l i h k =
    let u : 32 - i ≡ (31 - i) + 1 = omega arith in
    let o : 2 ^ (32 - i) ≡ 2 ^ (31 - i) * 2 = ap (λ (n : ℕ). 2 ^ n) u ∙ pow-add 2 (31 - i) 1 in
    ap (λ (q : ℕ). q % 2) (mask_high l i h (omega arith)) ∙ omega (arith, pow_pos (31 - i))

-- a bit past the length
bit_past : (l i : ℕ) → i < 32 - l → mask_of l / 2 ^ i % 2 ≡ 0
bit_past l i h =
    let s : ℕ = 32 - l in
    let q : ℕ = 2 ^ (32 - s) - 1 in
    let t : ℕ = (s - i) - 1 in
    let e : s ≡ (t + 1) + i = omega arith in
    let f : 2 ^ s ≡ 2 ^ t * 2 * 2 ^ i = ap (λ (n : ℕ). 2 ^ n) e ∙ pow-add 2 (t + 1) i ∙ ap (λ (x : ℕ). x * 2 ^ i) (pow-add 2 t 1) in
    let g : mask_of l ≡ q * 2 ^ t * 2 * 2 ^ i = mask_ones l ∙ ap (λ (x : ℕ). q * x) f ∙ sym (mul_assoc q (2 ^ t * 2) (2 ^ i)) ∙ ap (λ (x : ℕ). x * 2 ^ i) (sym (mul_assoc q (2 ^ t) 2)) in
    ap (λ (x : ℕ). x / 2 ^ i % 2) g ∙ ap (λ (x : ℕ). x % 2) (shl-shr (q * 2 ^ t * 2) i) ∙ omega arith

-- of the 32 bits of a mask as many are one, from the highest down, as the length says, and no others
pub mask_bits : (l i : ℕ) → (mask_of l / 2 ^ i % 2 ≡ 1) ↔ ((32 - l ≤ i) × (i < 32))
mask_bits l i = (
  λ e. split (leb (32 - l) i)
      (λ u. split (ltb i 32)
      (λ v. (leb-true (32 - l) i u, ltb-true i 32 v))
      (λ v. let z = bit_above (ltb-false i 32 v) in absurd (omega arith)))
      (λ u. let z = bit_past l i (leb-false (32 - l) i u) in absurd (omega arith)),
  λ h. bit_reached l i h.0 h.1,
)
  where
    bit_above : 32 ≤ i → mask_of l / 2 ^ i % 2 ≡ 0
    bit_above h = ap (λ (x : ℕ). x % 2) (div-eq_of_lt (lt_of_lt_of_le (mask_lt l) (pow_mono {i = 32} {j = i} h)))

-- ---- what the masks stand for: the leading bits of an address
same_block : (a b s : ℕ) → eqb (a * 2 ^ s) (b * 2 ^ s) ≡ eqb a b
same_block a b s = both_ways (eqb (a * 2 ^ s) (b * 2 ^ s)) (eqb a b)
    (λ e. eq-eqb a b (sym (shl-shr a s) ∙ ap (λ n. n / 2 ^ s) (eqb-true (a * 2 ^ s) (b * 2 ^ s) e) ∙ shl-shr b s))
    (λ e. eq-eqb (a * 2 ^ s) (b * 2 ^ s) (ap (λ n. n * 2 ^ s) (eqb-true a b e)))

leading : (v w l : ℕ) → v < 2 ^ 32 → w < 2 ^ 32 → eqb (bit_and v (mask_of l)) (bit_and w (mask_of l)) ≡ eqb (v / 2 ^ (32 - l)) (w / 2 ^ (32 - l))
leading v w l h k = rw (leaves v l h, leaves w l k) (same_block (v / 2 ^ (32 - l)) (w / 2 ^ (32 - l)) (32 - l))

-- an address fits a prefix if its leading bits, as many as the length says, are the prefix's
pub prefix_fits_leading : (p : Prefix) (x : ℕ) → p.value < 2 ^ 32 → x < 2 ^ 32 → prefix_fits p x ≡ eqb (x / 2 ^ (32 - p.length)) (p.value / 2 ^ (32 - p.length))
prefix_fits_leading p x h k = leading x p.value p.length k h

-- two overlap if the leading bits that both compare are the same
pub prefix_overlaps_leading : (p q : Prefix) → p.value < 2 ^ 32 → q.value < 2 ^ 32
    → prefix_overlaps p q ≡ eqb (p.value / 2 ^ (32 - min p.length q.length)) (q.value / 2 ^ (32 - min p.length q.length))
prefix_overlaps_leading p q h k = overlaps_shorter p q ∙ leading p.value q.value (min p.length q.length) h k

-- one lies within another if it is at least as long and has the other's leading bits
pub prefix_within_leading : (p q : Prefix) → p.value < 2 ^ 32 → q.value < 2 ^ 32 → q.length ≤ 32
    → prefix_within p q ≡ leb q.length p.length && eqb (p.value / 2 ^ (32 - q.length)) (q.value / 2 ^ (32 - q.length))
prefix_within_leading p q h k l = ap₂ ◌&&◌ (masks (leb q.length p.length) refl) (leading p.value q.value q.length h k)
  where
    masks : (b : Bool) → leb q.length p.length ≡ b → eqb (bit_and (mask_of p.length) (mask_of q.length)) (mask_of q.length) ≡ leb q.length p.length
    masks true e =
        let i = leb-true q.length p.length e in
        eq-eqb _ _ (nested p.length q.length (omega arith)) ∙ sym e
    masks false e =
        let i = leb-false q.length p.length e in
        not_nested p.length q.length i (omega arith) ∙ sym e

-- no bit stands past the length
pub prefix_clear_means : (p : Prefix) → p.value < 2 ^ 32 → (prefix_clear p ≡ true) ↔ (p.value % 2 ^ (32 - p.length) ≡ 0)
prefix_clear_means p h = (
  λ e. let f = eqb-true (bit_and v (mask_of p.length)) v e in let g = leaves v p.length h in let d = pow-split v (32 - p.length) in omega arith,
  λ e. let g = leaves v p.length h in let d = pow-split v (32 - p.length) in eq-eqb (bit_and v (mask_of p.length)) v (omega arith),
)
  where
    v : ℕ
    v = p.value
