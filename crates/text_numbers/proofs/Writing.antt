-- Laws of texts that are put at a place of a buffer.
use Prim.Native.Nat.{ℕ, zero, suc, ◌+◌, ◌-◌, ◌/◌, ◌%◌, ◌^◌, ◌≤◌, ◌<◌, min}
use mathlib.Core.List.{List, [], ◌∷◌, ◌++◌, append_assoc, append-nil}
use mathlib.Core.Path.{◌≡◌, refl, sym, ap, subst, ◌∙◌}
use native.Mathlib.Decide.{dec_lt}
use native.Mathlib.Nat.{add-zero, add-suc, suc-add}
use native.Mathlib.Omega.{arith}
use borrow.Rule.Slice.PartMut.{mid_of, post_of, put_mid, Post-is}
use lib.ListN.{length, take, drop, set, length-append, length-drop, drop_of_length-le}
use lib.Seq.{sets, take_all, sets-eq, set_out, length-sets, length-take-le}
use Rattle.std.proofs.lemmas.List.{take-append-drop}
use Rattle.text_numbers.specs.Print.{print_number, hex_digit, hexadecimal}
use Rattle.text_numbers.specs.Inner.{Put}
use Rattle.text_numbers.proofs.Print.{print_small, print_big}
pub use Rattle.text_numbers.proofs.Print.{print_length, hex_length}

sets_then : (xs : List ℕ) (at : ℕ) (a b : List ℕ) → sets (sets xs at a) (at + length a) b ≡ sets xs at (a ++ b)
sets_then xs at [] b = rw add-zero
sets_then xs at (c ∷ a) b = rw (add-suc, ← suc-add) (sets_then (set xs at c) (suc at) a b)

-- nothing, a byte, and one text behind another
pub put_none : (at : ℕ) (xs : List ℕ) → Put [] at xs at xs
put_none at xs = record { after = rw add-zero; bytes = refl }

pub put_one : (at b : ℕ) (xs ys : List ℕ) → ys ≡ set xs at b → Put (b ∷ []) at xs (at + 1) ys
put_one at b xs ys e = record { after = refl; bytes = e }

pub put_then : {a b xs ys zs : List ℕ} {at m n : ℕ} → Put a at xs m ys → Put b m ys n zs → Put (a ++ b) at xs n zs
put_then {a} {b} {xs} {at = at} p q = record {
  after = q.after ∙ rw (p.after, length-append) (omega arith);
  bytes = q.bytes ∙ rw (p.bytes, p.after) (sets_then xs at a b);
}

-- a buffer keeps its length
pub put_length : {w xs ys : List ℕ} {at n : ℕ} → Put w at xs n ys → length ys ≡ length xs
put_length {w} {xs} {at = at} p = rw p.bytes (length-sets xs at w)

-- with room for the text, the bytes around it are as they were
pub put_whole : {w xs ys : List ℕ} {at n : ℕ} → Put w at xs n ys → n ≤ length xs → ys ≡ take at xs ++ w ++ drop n xs
put_whole {w} {xs} {at = at} p h = p.bytes ∙ sets-eq w xs at (omega (arith, p.after)) ∙ rw p.after

-- a text copied into the part of a buffer from a place on
block_put : (text xs : List ℕ) {at : ℕ} {ys : List ℕ} → at + length text ≤ length xs → ys ≡ text → Put text at xs (at + length text) (put_mid at ((at + length text) - at) xs ys)
block_put text xs {at} h y =
    let post : post_of at ((at + length text) - at) xs ≡ drop (at + length text) xs = Post-is at (at + length text) xs (omega arith) in
    record { after = refl; bytes = rw (post, y) (sym (sets-eq text xs at h ∙ append_assoc (take at xs) text (drop (at + length text) xs))) }

-- what lies past the buffer's end is dropped
sets_past : (xs : List ℕ) (at : ℕ) (w : List ℕ) → length xs ≤ at → sets xs at w ≡ xs
sets_past xs at [] h = refl
sets_past xs at (b ∷ w) h = rw (set_out xs at b h) (sets_past xs (suc at) w (omega arith))

pub put_past : (w xs : List ℕ) (at : ℕ) → length xs ≤ at → Put w at xs (at + length w) xs
put_past w xs at h = record { after = refl; bytes = sym (sets_past xs at w h) }

-- as much of a text as the buffer has room for is all that is put of it
pub put_cut : (w xs : List ℕ) (at n : ℕ) {ys : List ℕ} → at < length xs → n ≡ min (length w) (length xs - at) → ys ≡ take n w → Put w at xs (at + length w) (put_mid at ((at + n) - at) xs ys)
put_cut w xs at n {ys} h m e =
    let long : length (take n w) ≡ n = length-take-le n w (omega arith) in
    let front : Put (take n w) at xs (at + n) (put_mid at ((at + n) - at) xs ys) =
    subst (λ (k : ℕ). Put (take n w) at xs (at + k) (put_mid at ((at + k) - at) xs ys)) long (block_put (take n w) xs (omega (arith, long)) e) in
    let zs = put_mid at ((at + n) - at) xs ys in
    let back : Put (drop n w) (at + n) zs (at + length w) zs =
    elim (dec_lt n (length w)) [
      | yes l ↦ record { after = omega (arith, length-drop n w); bytes = sym (sets_past zs (at + n) (drop n w) (omega (arith, put_length front))) }
      | no l ↦ let all : length w ≤ n = omega arith in record { after = omega (arith, length-drop n w); bytes = rw (drop_of_length-le w) refl }
    ] in
    subst (λ (v : List ℕ). Put v at xs (at + length w) zs) (take-append-drop n w) (put_then front back)

-- a text put into the rest of a buffer
sets_cons : (x : ℕ) (xs : List ℕ) (at : ℕ) (w : List ℕ) → sets (x ∷ xs) (suc at) w ≡ x ∷ sets xs at w
sets_cons x xs at [] = refl
sets_cons x xs at (b ∷ w) = sets_cons x (set xs at b) (suc at) w

sets_rest : (xs : List ℕ) (at : ℕ) (w : List ℕ) → at ≤ length xs → take at xs ++ sets (drop at xs) 0 w ≡ sets xs at w
sets_rest xs zero w h = refl
sets_rest [] (suc at) w h = absurd (omega arith)
sets_rest (x ∷ xs) (suc at) w h = ap (λ (l : List ℕ). x ∷ l) (sets_rest xs at w (omega arith)) ∙ sym (sets_cons x xs at w)

rest_bytes : (xs : List ℕ) (at : ℕ) (w : List ℕ) → take (min at (length xs)) xs ++ sets (drop (min at (length xs)) xs) 0 w ≡ sets xs at w
rest_bytes xs at w =
    elim (dec_lt at (length xs)) [
      | yes l ↦ let m : min at (length xs) ≡ at = omega arith in rw m (sets_rest xs at w (omega arith))
      | no l ↦ let h : length xs ≤ at = omega arith in
          let m : min at (length xs) ≡ length xs = omega arith in
          rw m (sets_rest xs (length xs) w (omega arith) ∙ sets_past xs (length xs) w (omega arith) ∙ sym (sets_past xs at w h))
    ]

-- a text put into the part from a place on, or into none past the end, is put at that place
pub put_from : {w xs rest : List ℕ} {at from n : ℕ} → from ≡ min at (length xs) → Put w 0 (mid_of from (length xs - from) xs) n rest
    → Put w at xs (at + n) (put_mid from (length xs - from) xs rest)
put_from {w} {xs} {rest} {at} {from} m q =
    let mid : mid_of from (length xs - from) xs ≡ drop from xs = take_all (length xs - from) (drop from xs) (simp length-drop (omega arith)) in
    let full : length xs ≤ length xs = omega arith in
    let post : post_of from (length xs - from) xs ≡ [] = Post-is from (length xs) xs (omega arith) ∙ drop_of_length-le xs full in
    record {
      after = omega (arith, q.after);
      bytes = rw (post, append-nil, q.bytes, mid, m) (rest_bytes xs at w);
    }

-- a number's digits, the last after the others
pub number_small : (v at : ℕ) (xs ys : List ℕ) → v < 10 → ys ≡ set xs at (48 + v) → Put (print_number v) at xs (at + 1) ys
number_small v at xs ys h e = rw (print_small v h) (put_one at (48 + v) xs ys e)

pub number_big : (v at n : ℕ) (xs ys zs : List ℕ) → 10 ≤ v → v < 2 ^ 64 → Put (print_number (v / 10)) at xs n ys → zs ≡ set ys n (48 + v % 10)
    → Put (print_number v) at xs (n + 1) zs
number_big v at n xs ys zs h f p e = rw (print_big v h (omega arith)) (put_then p (put_one n (48 + v % 10) ys zs e))

pub hex_none : (k v at : ℕ) (xs : List ℕ) → k ≡ 0 → Put (hexadecimal k v) at xs at xs
unfolding hexadecimal
hex_none k v at xs e = rw e (put_none at xs)

hexadecimal_last : (k v : ℕ) → (k ≡ 0 → ⊥) → hexadecimal k v ≡ hexadecimal (k - 1) (v / 16) ++ (hex_digit (v % 16) ∷ [])
unfolding hexadecimal
hexadecimal_last zero v h = absurd (h refl)
hexadecimal_last (suc k) v h = let e : suc k - 1 ≡ k = omega arith in rw e

pub hex_last : (k v at n d : ℕ) (xs ys zs : List ℕ) → (k ≡ 0 → ⊥) → Put (hexadecimal (k - 1) (v / 16)) at xs n ys → d ≡ hex_digit (v % 16) → zs ≡ set ys n d
    → Put (hexadecimal k v) at xs (n + 1) zs
hex_last k v at n d xs ys zs h p q e = rw (hexadecimal_last k v h) (put_then p (put_one n (hex_digit (v % 16)) ys zs (rw q at e)))
