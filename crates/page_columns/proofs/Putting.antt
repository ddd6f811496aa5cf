-- Texts in columns, put at a place of a buffer. Assumes nothing.
use Prim.Native.Nat.{ℕ, ◌+◌, ◌-◌, ◌≤◌}
use native.Mathlib.Omega.{arith}
use mathlib.Core.Path.{◌≡◌, subst}
use mathlib.Core.List.{List}
use lib.ListN.{replicate, length, take}
use Rattle.std.proofs.lemmas.List.{take-replicate}
use Rattle.text_numbers.specs.Inner.{Put}
use Rattle.text_numbers.proofs.Writing.{put_then}
use Rattle.page_columns.specs.Columns.{blanks, right, left}
use Rattle.page_columns.proofs.Columns.{right_most, left_most}

pub blanks_put : (n : ℕ) {at m : ℕ} {xs ys : List ℕ} → n ≤ 60 → Put (take n (replicate 60 32)) at xs m ys → Put (blanks n) at xs m ys
unfolding blanks
blanks_put n {at} {m} {xs} {ys} h p = subst (λ (w : List ℕ). Put w at xs m ys) (take-replicate n 60 32 h) p

module _ (w : ℕ) (text : List ℕ) {rest : ℕ} (e : rest ≡ w - length text) (l : w ≤ 60) (k : length text ≤ 20) {at m n : ℕ} {xs ys zs : List ℕ} where
  pub right_put : Put (blanks rest) at xs m ys → Put text m ys n zs → Put (right w text) at xs n zs × (n ≤ at + 80)
  unfolding right
  right_put p q =
      let r : Put (right w text) at xs n zs = rw (← e) (put_then p q) in
      (r, omega (arith, r.after, right_most w text))

  pub left_put : Put text at xs m ys → Put (blanks rest) m ys n zs → Put (left w text) at xs n zs × (n ≤ at + 80)
  unfolding left
  left_put p q =
      let r : Put (left w text) at xs n zs = rw (← e) (put_then p q) in
      (r, omega (arith, r.after, left_most w text))
