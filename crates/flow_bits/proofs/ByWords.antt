-- The tests of matches by words are those field by field: overlap, within, the same match; and a packet fits a match exactly if the
-- match that it alone fits overlaps it. Assumes nothing.
use mathlib.Core.Path.{◌≡◌, refl, sym, ap, ◌∙◌}
use mathlib.Core.Bool.{Bool, true, false, ◌&&◌, true≢false}
use Prim.Native.Nat.{ℕ, ◌+◌, ◌^◌, ◌<◌}
use native.Mathlib.Nat.{mod-eq_of_lt}
use native.Mathlib.Omega.{arith}
use lib.Dec.{eqb}
use lib.Bits.{bit_and, and_zero_r, and_mask, and_comm}
use borrow.Author.Tests.{eq-eqb, ne_eqb, eqb-true}
use Rattle.basics.proofs.Booleans.{both_ways, and_assoc, and-true, and_false_right}
use Rattle.flow_bits.specs.Types.{Exact, Prefix, Match, Packet, Word}
use Rattle.flow.specs.Matches.{exact_fits, exact_overlaps, exact_within, prefix_fits, prefix_overlaps, fits, overlaps, within, mask_of}
use Rattle.flow.specs.Inner.{same_exact, same_match}
use Rattle.flow_bits.specs.Inner.{word_overlaps, word_within, word_same, joined, InBits, exact_word, prefix_word, length_word, first_word, second_word, third_word, bits_of, bits_overlap, bits_within, bits_same, Narrow, exactly}
use Rattle.flow.proofs.PrefixField.{nested}
use Rattle.flow_bits.proofs.Joined.{joined_overlaps, joined_within, joined_same, joined_in_bits}

-- ---- one field
-- a number of 16 bits: all of them count
whole : (a : ℕ) → a < 2 ^ 16 → bit_and a 65535 ≡ a
whole a h = and_mask a 16 ∙ mod-eq_of_lt h

exact_overlaps_lem : (a b : Exact) → InBits 16 (exact_word a) → InBits 16 (exact_word b) → word_overlaps (exact_word a) (exact_word b) ≡ exact_overlaps a b
exact_overlaps_lem Exact.Any Exact.Any h k = refl
exact_overlaps_lem Exact.Any (Exact.Is b) h k = rw (and_zero_r b) refl
exact_overlaps_lem (Exact.Is a) Exact.Any h k = rw (and_zero_r a) refl
exact_overlaps_lem (Exact.Is a) (Exact.Is b) h k = rw (whole a h.0, whole b k.0) refl

exact_within_lem : (a b : Exact) → InBits 16 (exact_word a) → InBits 16 (exact_word b) → word_within (exact_word a) (exact_word b) ≡ exact_within a b
exact_within_lem Exact.Any Exact.Any h k = refl
exact_within_lem Exact.Any (Exact.Is b) h k = refl
exact_within_lem (Exact.Is a) Exact.Any h k = rw (and_zero_r a) refl
exact_within_lem (Exact.Is a) (Exact.Is b) h k = rw (whole a h.0, whole b k.0) refl

exact_same : (a b : Exact) → word_same (exact_word a) (exact_word b) ≡ same_exact a b
exact_same Exact.Any Exact.Any = refl
exact_same Exact.Any (Exact.Is b) = and_false_right (eqb 0 b) refl ∙ sym (ne_eqb 0 (b + 1) (λ e. absurd (omega arith)))
exact_same (Exact.Is a) Exact.Any = and_false_right (eqb a 0) refl ∙ sym (ne_eqb (a + 1) 0 (λ e. absurd (omega arith)))
exact_same (Exact.Is a) (Exact.Is b) = and-true (eqb a b) ∙ both_ways (eqb a b) (eqb (a + 1) (b + 1))
    (λ e. eq-eqb (a + 1) (b + 1) (ap (λ (n : ℕ). n + 1) (eqb-true a b e)))
    (λ e. let h = eqb-true (a + 1) (b + 1) e in eq-eqb a b (omega arith))

lengths_overlap : (p q : Prefix) → word_overlaps (length_word p) (length_word q) ≡ true
lengths_overlap p q = rw (and_zero_r p.length, and_zero_r q.length) refl

lengths_within : (p q : Prefix) → word_within (length_word p) (length_word q) ≡ true
lengths_within p q = rw (and_zero_r p.length, and_zero_r q.length) refl

-- ---- equal prefixes: equal lengths have equal masks
same_masks : (p q : Prefix) → eqb p.length q.length ≡ true → eqb (mask_of p.length) (mask_of q.length) ≡ true
same_masks p q e = eq-eqb (mask_of p.length) (mask_of q.length) (ap mask_of (eqb-true p.length q.length e))

-- the words' parts in their order, and the fields in theirs: v and w the values, k and l the masks, i and j the lengths
same_fields : (a b v k w l c d i j e : Bool) → (i ≡ true → k ≡ true) → (j ≡ true → l ≡ true)
    → (((a && b) && (v && k)) && (((w && l) && (c && d)) && (((i && true) && (j && true)) && e))) ≡ (a && (b && ((v && i) && ((w && j) && (c && (d && e))))))
same_fields false b v k w l c d i j e f g = refl
same_fields true false v k w l c d i j e f g = refl
same_fields true true false k w l c d i j e f g = refl
same_fields true true true false w l c d false j e f g = refl
same_fields true true true false w l c d true j e f g = absurd (true≢false (sym (f refl)))
same_fields true true true true w l c d false j e f g = and_false_right ((w && l) && (c && d)) refl
same_fields true true true true false l c d true j e f g = refl
same_fields true true true true true false c d true false e f g = refl
same_fields true true true true true false c d true true e f g = absurd (true≢false (sym (g refl)))
same_fields true true true true true true c d true false e f g = and_false_right (c && d) refl
same_fields true true true true true true c d true true e f g = and_assoc c d e

-- ---- the match: any test that goes by the parts of joined words
module _ (test : Word → Word → Bool)
    (joins : (k : ℕ) (a b c d : Word) → InBits k c → InBits k d → test (joined k a c) (joined k b d) ≡ (test a b && test c d))
    (m n : Match) (h : Narrow m) (k : Narrow n) where
  abbrev on_exact : Exact → Exact → Bool
  on_exact a b = test (exact_word a) (exact_word b)

  abbrev on_prefix : Prefix → Prefix → Bool
  on_prefix p q = test (prefix_word p) (prefix_word q)

  abbrev on_length : Prefix → Prefix → Bool
  on_length p q = test (length_word p) (length_word q)

  first_by : test (first_word m) (first_word n) ≡ ((on_exact m.port n.port && on_exact m.vlan n.vlan) && on_prefix m.src n.src)
  unfolding first_word
  first_by =
      joins 32 (joined 16 (exact_word m.port) (exact_word m.vlan)) (joined 16 (exact_word n.port) (exact_word n.vlan)) (prefix_word m.src) (prefix_word n.src) h.first.src k.first.src
      ∙ ap (λ b. b && on_prefix m.src n.src) (joins 16 (exact_word m.port) (exact_word n.port) (exact_word m.vlan) (exact_word n.vlan) h.first.vlan k.first.vlan)

  second_by : test (second_word m) (second_word n) ≡ (on_prefix m.dst n.dst && (on_exact m.proto n.proto && on_exact m.sport n.sport))
  unfolding second_word
  second_by =
      joins 32 (prefix_word m.dst) (prefix_word n.dst) (joined 16 (exact_word m.proto) (exact_word m.sport)) (joined 16 (exact_word n.proto) (exact_word n.sport))
      (joined_in_bits 16 (exact_word m.proto) (exact_word m.sport) h.second.proto h.second.sport)
      (joined_in_bits 16 (exact_word n.proto) (exact_word n.sport) k.second.proto k.second.sport)
      ∙ ap (λ b. on_prefix m.dst n.dst && b) (joins 16 (exact_word m.proto) (exact_word n.proto) (exact_word m.sport) (exact_word n.sport) h.second.sport k.second.sport)

  third_by : test (third_word m) (third_word n) ≡ ((on_length m.src n.src && on_length m.dst n.dst) && on_exact m.dport n.dport)
  unfolding third_word
  third_by =
      joins 16 (joined 8 (length_word m.src) (length_word m.dst)) (joined 8 (length_word n.src) (length_word n.dst)) (exact_word m.dport) (exact_word n.dport) h.third.dport k.third.dport
      ∙ ap (λ b. b && on_exact m.dport n.dport) (joins 8 (length_word m.src) (length_word n.src) (length_word m.dst) (length_word n.dst) h.third.dst_length k.third.dst_length)

module _ (m n : Match) (h : Narrow m) (k : Narrow n) where
  pub overlaps_bits : bits_overlap (bits_of m) (bits_of n) ≡ overlaps m n
  unfolding bits_overlap bits_of overlaps
  overlaps_bits = rw (first_by word_overlaps joined_overlaps m n h k, second_by word_overlaps joined_overlaps m n h k, third_by word_overlaps joined_overlaps m n h k)
      (rw (exact_overlaps_lem m.port n.port h.first.port k.first.port, exact_overlaps_lem m.vlan n.vlan h.first.vlan k.first.vlan, exact_overlaps_lem m.proto n.proto h.second.proto k.second.proto, exact_overlaps_lem m.sport n.sport h.second.sport k.second.sport, exact_overlaps_lem m.dport n.dport h.third.dport k.third.dport, lengths_overlap m.src n.src, lengths_overlap m.dst n.dst)
      (simp and_assoc))

  pub within_bits : bits_within (bits_of m) (bits_of n) ≡ within m n
  unfolding bits_within bits_of within
  within_bits = rw (first_by word_within joined_within m n h k, second_by word_within joined_within m n h k, third_by word_within joined_within m n h k)
      (rw (exact_within_lem m.port n.port h.first.port k.first.port, exact_within_lem m.vlan n.vlan h.first.vlan k.first.vlan, exact_within_lem m.proto n.proto h.second.proto k.second.proto, exact_within_lem m.sport n.sport h.second.sport k.second.sport, exact_within_lem m.dport n.dport h.third.dport k.third.dport, lengths_within m.src n.src, lengths_within m.dst n.dst)
      (simp and_assoc))

  pub same_bits : bits_same (bits_of m) (bits_of n) ≡ same_match m n
  unfolding bits_same bits_of same_match
  same_bits = rw (first_by word_same joined_same m n h k, second_by word_same joined_same m n h k, third_by word_same joined_same m n h k)
      (rw (exact_same m.port n.port, exact_same m.vlan n.vlan, exact_same m.proto n.proto, exact_same m.sport n.sport, exact_same m.dport n.dport)
      (same_fields (same_exact m.port n.port) (same_exact m.vlan n.vlan) (eqb m.src.value n.src.value) (eqb (mask_of m.src.length) (mask_of n.src.length))
      (eqb m.dst.value n.dst.value) (eqb (mask_of m.dst.length) (mask_of n.dst.length)) (same_exact m.proto n.proto) (same_exact m.sport n.sport)
      (eqb m.src.length n.src.length) (eqb m.dst.length n.dst.length) (same_exact m.dport n.dport) (same_masks m.src n.src) (same_masks m.dst n.dst)))

-- ---- the packets of a match
exact_fits_lem : (a : Exact) (x : ℕ) → exact_fits a x ≡ exact_overlaps a (Exact.Is x)
exact_fits_lem Exact.Any x = refl
exact_fits_lem (Exact.Is a) x = refl

prefix_fits_lem : (p : Prefix) (x : ℕ) → prefix_fits p x ≡ prefix_overlaps p (record { value = x; length = 32 })
prefix_fits_lem p x =
    let e : bit_and (mask_of p.length) (mask_of 32) ≡ mask_of p.length = and_comm (mask_of p.length) (mask_of 32) ∙ nested 32 p.length (omega arith) in
    let v = bit_and p.value (mask_of p.length) in
    let w = bit_and x (mask_of p.length) in
    rw e (both_ways (eqb w v) (eqb v w) (λ i. eq-eqb v w (sym (eqb-true w v i))) (λ i. eq-eqb w v (sym (eqb-true v w i))))

pub fits_exactly : (m : Match) (p : Packet) → fits m p ≡ overlaps m (exactly p)
unfolding fits overlaps exactly
fits_exactly m p = rw (exact_fits_lem m.port p.port, exact_fits_lem m.vlan p.vlan, prefix_fits_lem m.src p.src, prefix_fits_lem m.dst p.dst, exact_fits_lem m.proto p.proto, exact_fits_lem m.sport p.sport, exact_fits_lem m.dport p.dport) refl
